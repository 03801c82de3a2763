-- A residual problem's line as it is read.
use Rattle.std.proofs.Common.{◌≡◌, ◌-◌, ◌≤◌, List, [], ◌∷◌, ◌++◌, length, take, drop, get_or, refl, arith, ap, sym, ◌∙◌, subst, ℤ, pos, append-nil}
use Rattle.std.specs.Prelude.{FitsSigned, All, codes}
use Rattle.std.specs.Int.{w128}
use Rattle.std.proofs.lemmas.Int.{to_z-of_z}
use Rattle.std.proofs.lemmas.List.{take_rest}
use mir.Val.{to_z, of_z}
use Rattle.run_log.specs.declared.line.LogLine.TheVariants as line
use Rattle.run_log.specs.Steps.{IsEntry}
use Rattle.run_log.proofs.Parts.{all_head, all_tail}

pub rest_is : (zs : List ℤ) (words values : List ℤ) → All (FitsSigned w128) zs → 1 ≤ length zs → words ≡ take (length zs - 1) (drop 1 zs) → values ≡ [] → IsEntry (codes "rest") zs (record { line = line.Rest (to_z w128 (of_z w128 (get_or zs 0 (pos 0)))); words = words; values = values })
rest_is [] words values f some w v = absurd (omega arith)
rest_is (z ∷ zs) words values f some w v =
    let same = to_z-of_z w128 z (all_head (FitsSigned w128) z zs f) in
    let tail : words ≡ zs = w ∙ take_rest (z ∷ zs) 1 in
    record {
      fit = record {
        line = subst (FitsSigned w128) (sym same) (all_head (FitsSigned w128) z zs f);
        words = subst (All (FitsSigned w128)) (sym tail) (all_tail (FitsSigned w128) z zs f);
        values = v;
      };
      named = refl;
      numbers = ap (λ (y : ℤ). y ∷ (words ++ values)) same ∙ ap (λ (ys : List ℤ). z ∷ ys) (ap (λ (x : List ℤ). words ++ x) v ∙ append-nil words ∙ tail);
    }
