-- What a model keeps of a constraint is enough for a call.
use Rattle.std.proofs.Common.{ℕ, arith}
use Rattle.fzn_model.specs.Limits.{ConInLimits, BaseInLimits, of_model, of_call}
use Rattle.fzn_model.specs.declared.con.Con.{Con}
use Rattle.fzn_model.specs.declared.con.Con.TheVariants as con
use Rattle.fzn_model.specs.declared.base.Base.{Base}
use Rattle.fzn_model.specs.declared.base.Base.TheVariants as base

-- of a base
base_of_call : (n : ℕ) (b : Base) → BaseInLimits of_model n b → BaseInLimits of_call n b
base_of_call n (base.Lin l) k = record { sum = k.sum; constant = omega (arith, k.constant) }
base_of_call n (base.Clause c) k = k
base_of_call n (base.Member m) k = k

-- of a constraint
pub con_of_call : (n : ℕ) (c : Con) → ConInLimits of_model n c → ConInLimits of_call n c
con_of_call n (con.Base b) k = base_of_call n b k
con_of_call n (con.Reif b r f) (k, t) = (base_of_call n b k, t)
con_of_call n (con.Times a b c) k = k
con_of_call n (con.Abs a b) k = k
con_of_call n (con.Div a b c) k = k
con_of_call n (con.Mod a b c) k = k
con_of_call n (con.Greatest m xs) k = k
con_of_call n (con.Least m xs) k = k
con_of_call n (con.Element i xs c) k = k
con_of_call n (con.AllDiffExcept xs taken) (k, t) = (k, record { count = omega (arith, t.count); values = t.values })
con_of_call n (con.CumulUsed tasks used b) (k, u, t) = (k, record { count = omega (arith, u.count); moments = λ i d p. let m = u.moments i d p in (omega (arith, m.0), omega (arith, m.1)); amounts = λ i d p. let a = u.amounts i d p in (a.0, omega (arith, a.1)) }, t)
con_of_call n (con.Table xs rows) k = k
