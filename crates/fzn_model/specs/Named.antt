-- The terms that a constraint names.
use Rattle.std.specs.Prelude.{List, [], ◌∷◌, ◌++◌, map}
use Rattle.fzn_model.specs.declared.term.Term.{Term}
use Rattle.fzn_model.specs.declared.base.Base.{Base}
use Rattle.fzn_model.specs.declared.base.Base.TheVariants as base
use Rattle.fzn_model.specs.declared.con.Con.{Con}
use Rattle.fzn_model.specs.declared.con.Con.TheVariants as con

abbrev pub base_terms : Base → List Term
base_terms (base.Lin l) = map (λ p. p.1) l.terms
base_terms (base.Clause c) = c.pos ++ c.neg
base_terms (base.Member m) = m.x ∷ []

abbrev pub con_terms : Con → List Term
con_terms (con.Base b) = base_terms b
con_terms (con.Reif b r f) = r ∷ base_terms b
con_terms (con.Times a b c) = a ∷ b ∷ c ∷ []
con_terms (con.Abs a b) = a ∷ b ∷ []
con_terms (con.Div a b c) = a ∷ b ∷ c ∷ []
con_terms (con.Mod a b c) = a ∷ b ∷ c ∷ []
con_terms (con.Greatest m xs) = m ∷ xs
con_terms (con.Least m xs) = m ∷ xs
con_terms (con.Element i xs c) = i ∷ c ∷ xs
con_terms (con.AllDiffExcept xs taken) = xs
con_terms (con.CumulUsed tasks used b) = b ∷ (map (λ k. k.s) tasks ++ map (λ k. k.d) tasks ++ map (λ k. k.r) tasks)
con_terms (con.Table xs rows) = xs
