-- A box has one rest.
use Rattle.std.proofs.Common.{◌≡◌, ℕ, suc, List, [], ◌∷◌, sym, subst, ◌∙◌, ℤ, inl, inr}
use Rattle.fzn_model.specs.declared.con.Con.{Con}
use Rattle.fzn_model.specs.declared.con.Con.TheVariants as con
use Rattle.fzn_model.specs.Parts.{Parts}
use Rattle.fzn_model.specs.Rests.{RestParts}
use Rattle.rest_basic.specs.Equivalence.{IsPlain}
use Rattle.rest_basic.specs.declared.reduced.Reduced.{Reduced}
use Rattle.rest_basic.specs.declared.reduced.Reduced.TheVariants as reduced
use Rattle.rest_forms.specs.Forms.{IsGlobalForm}
use Rattle.rest_global.specs.Projection.{IsForm, IsFirst, AreLeft, IsRestOfBox}
use Rattle.rest_forms.proofs.GlobalLaw.{global_unique}

-- no kind is both
not_both : (box : List (List ℤ)) (c : Con) (form : Reduced) → IsPlain c → IsGlobalForm box c form → ⊥
not_both box (con.Base b) form plain is = is
not_both box (con.Reif b r f) form plain is = is
not_both box (con.Times a b c) form plain is = is
not_both box (con.Abs a b) form plain is = is
not_both box (con.Div a b c) form plain is = is
not_both box (con.Mod a b c) form plain is = is
not_both box c form plain is = plain

form_alone : (box : List (List ℤ)) (c : Con) (f g : Reduced) → IsForm box c f → IsForm box c g → f ≡ g
unfolding IsForm
form_alone box c f g (inl (plain, one)) (inl (same, other)) = one ∙ sym other
form_alone box c f g (inl (plain, one)) (inr other) = absurd (not_both box c g plain other)
form_alone box c f g (inr one) (inl (plain, other)) = absurd (not_both box c f plain one)
form_alone box c f g (inr one) (inr other) = global_unique box c f g one other

first_alone : (box : List (List ℤ)) (form : Reduced) (n : ℕ) (ds es others : List Con) (labels names other_labels : List ℕ) → IsFirst box form n ds labels others other_labels → IsFirst box form n es names others other_labels → (ds ≡ es) × (labels ≡ names)
first_alone box reduced.Holds n ds es others labels names other_labels one other = (one.0 ∙ sym other.0, one.1 ∙ sym other.1)
first_alone box (reduced.Is d) n ds es others labels names other_labels one other = (one.0 ∙ sym other.0, one.1 ∙ sym other.1)

left_alone : (box : List (List ℤ)) (n : ℕ) (cs ds es : List Con) (labels names : List ℕ) → AreLeft box n cs ds labels → AreLeft box n cs es names → (ds ≡ es) × (labels ≡ names)
left_alone box n [] ds es labels names one other = (one.0 ∙ sym other.0, one.1 ∙ sym other.1)
left_alone box n (c ∷ cs) ds es labels names (f, others, other_labels, is, first, left) (g, rest, rest_labels, so, begins, right) =
    let same = left_alone box (suc n) cs others rest other_labels rest_labels left right in
    let alike : IsFirst box f n es names others other_labels =
    subst (λ (h : Reduced). IsFirst box h n es names others other_labels) (sym (form_alone box c f g is so))
    (subst (λ (xs : List Con). IsFirst box g n es names xs other_labels) (sym same.0)
    (subst (λ (xs : List ℕ). IsFirst box g n es names rest xs) (sym same.1) begins)) in
    first_alone box f n ds es others labels names other_labels first alike

parts_same : (r s : RestParts) → r.doms ≡ s.doms → r.cost ≡ s.cost → r.cons ≡ s.cons → r.labels ≡ s.labels → r ≡ s
parts_same r s doms cost cons labels = λ i. record { doms = doms i; cost = cost i; cons = cons i; labels = labels i }

pub rest_alone : (box : List (List ℤ)) (m : Parts) (below : ℤ) (r s : RestParts) (o p : ℤ) → IsRestOfBox box m below r o → IsRestOfBox box m below s p → (r ≡ s) × (o ≡ p)
rest_alone box m below r s o p one other =
    let left = left_alone box 0 m.cons r.cons s.cons r.labels s.labels one.constraints other.constraints in
    (parts_same r s (one.domains ∙ sym other.domains) (one.cost ∙ sym other.cost) left.0 left.1, one.constant ∙ sym other.constant)
