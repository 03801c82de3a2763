-- What is left of constraints, one after the other.
use Rattle.std.proofs.Common.{◌≡◌, ℕ, suc, ◌+◌, ◌*◌, ◌<◌, ◌≤◌, arith, List, [], ◌∷◌, ◌++◌, length, get_or, drop, refl, ap, sym, ◌∙◌, ℤ, inl, inr, add-one, drop-cons, append_assoc}
use Rattle.std.proofs.Math.Seq.{drop-length}
use Rattle.std.proofs.lemmas.List.{append-nil}
use Rattle.fzn_model.specs.declared.con.Con.{Con}
use Rattle.fzn_model.specs.Limits.{ConInLimits, of_call}
use Rattle.fzn_model.specs.Boxes.{IsBox}
use Rattle.fzn_model.specs.Booleans.{FitsBox}
use Rattle.rest_basic.specs.Forms.{plain_form}
use Rattle.rest_basic.specs.Equivalence.{IsPlain}
use Rattle.rest_basic.specs.declared.reduced.Reduced.{Reduced}
use Rattle.rest_basic.specs.declared.reduced.Reduced.TheVariants as reduced
use Rattle.rest_basic.proofs.FitLaw.{suit_law}
use Rattle.rest_forms.specs.Forms.{IsGlobalForm}
use Rattle.rest_global.specs.Renamed.{terms_by, linear_terms_by, task_by, tasks_by, base_by, con_by}
use Rattle.rest_global.specs.Projection.{rest_term, IsForm, AreLeft}
use Rattle.rest_global.specs.Making.{IsOver, IsNext, IsCounted, IsAdded, AreCounted}
use Rattle.rest_global.specs.declared.labelled.Labelled.{Labelled}
use Rattle.fzn_model.specs.Values.{largest}
use Rattle.fzn_model.specs.declared.term.Term.{Term}
use Rattle.fzn_model.specs.declared.base.Base.{Base}
use Rattle.fzn_model.specs.declared.base.Base.TheVariants as base
use Rattle.fzn_model.specs.declared.con.Con.TheVariants as con
use Rattle.rest_key.specs.Counts.{base_count, con_count, cons_count}
use Rattle.std.proofs.lemmas.List.{length-map}
use Rattle.rest_forms.proofs.GlobalLaw.{global_suits}

-- ---- the form of one constraint
pub plain_is : (box : List (List ℤ)) (c : Con) (form : Reduced) → IsPlain c → form ≡ plain_form box c → IsForm box c form
unfolding IsForm
plain_is box c form plain is = inl (plain, is)

pub global_is : (box : List (List ℤ)) (c : Con) (form : Reduced) → IsGlobalForm box c form → IsForm box c form
unfolding IsForm
global_is box c form is = inr is

-- what is left fits the box
pub form_suits : (box : List (List ℤ)) (c d : Con) → IsBox box → IsOver box c → IsForm box c (reduced.Is d) → FitsBox box d
unfolding IsForm
form_suits box c d well_formed over (inl (plain, is)) = suit_law box c d well_formed over.fits_box plain (sym is)
form_suits box c d well_formed over (inr is) = global_suits box c d well_formed over.fits_box over.kept is

pub form_kept : (box : List (List ℤ)) (c d : Con) → IsBox box → IsOver box c → IsForm box c (reduced.Is d) → ConInLimits of_call (length box) d
form_kept box c d well_formed over is = (form_suits box c d well_formed over is).kept

-- ---- one more
pub passed : (box : List (List ℤ)) (c : Con) (n limit : ℕ) (left : Labelled) → IsForm box c reduced.Holds → IsAdded box c n limit left left
passed box c n limit left is = record { form = reduced.Holds; is = is; next = refl }

pub added : (box : List (List ℤ)) (c d : Con) (n limit : ℕ) (old new : Labelled) → IsForm box c (reduced.Is d) → IsCounted box d n limit old new → IsAdded box c n limit old new
added box c d n limit old new is counted = record { form = reduced.Is d; is = is; next = counted }

-- ---- how many words
count_by : (to : Term → Term) (b : Base) → base_count (base_by to b) ≡ base_count b
unfolding terms_by linear_terms_by
count_by to (base.Lin l) = rw (length-map {B = ℤ × Term} l.terms (λ (p : ℤ × Term). (p.0, to p.1))) refl
count_by to (base.Clause c) = rw (length-map c.pos to, length-map c.neg to) refl
count_by to (base.Member m) = refl

same_count : (to : Term → Term) (d : Con) → con_count (con_by to d) ≡ con_count d
unfolding terms_by tasks_by
same_count to (con.Base b) = ap (λ (n : ℕ). 1 + n) (count_by to b)
same_count to (con.Reif b r f) = ap (λ (n : ℕ). 5 + n) (count_by to b)
same_count to (con.Times x y z) = refl
same_count to (con.Abs x y) = refl
same_count to (con.Div x y z) = refl
same_count to (con.Mod x y z) = refl
same_count to (con.Greatest m xs) = rw (length-map xs to) refl
same_count to (con.Least m xs) = rw (length-map xs to) refl
same_count to (con.Element i xs c) = rw (length-map xs to) refl
same_count to (con.AllDiffExcept xs taken) = rw (length-map xs to) refl
same_count to (con.CumulUsed tasks used b) = rw (length-map tasks (task_by to)) refl
same_count to (con.Table xs rows) = rw (length-map xs to) refl

one_more : (cs : List Con) (d : Con) → cons_count (cs ++ d ∷ []) ≡ cons_count cs + 1 + con_count d
unfolding cons_count
one_more [] d = omega arith
one_more (c ∷ cs) d = omega (arith, one_more cs d)

-- ---- those so far, in front of what is left of the others
pub record AreLeftBefore (box : List (List ℤ)) (cs : List Con) (n : ℕ) (ds : List Con) (labels : List ℕ) : Type 0 where
  pub all : (others : List Con) (other_labels : List ℕ) → AreLeft box n (drop n cs) others other_labels → AreLeft box 0 cs (ds ++ others) (labels ++ other_labels)

-- the first ones are counted beside some words
pub record AreCountedBefore (box : List (List ℤ)) (cs : List Con) (n start limit : ℕ) (left : Labelled) : Type 0 where
  pub all : List Con
  pub names : List ℕ
  pub before : AreLeftBefore box cs n all names
  pub words : left.words ≡ start + cons_count all
  pub kept : left.words ≤ limit → (left.cons ≡ all) × (left.labels ≡ names)
  pub small : left.words ≤ start + n * (36000006 + 2 * largest)

pub left_none : (box : List (List ℤ)) (cs : List Con) (start limit : ℕ) (left : Labelled) → left.cons ≡ [] → left.labels ≡ [] → left.words ≡ start → AreCountedBefore box cs 0 start limit left
unfolding cons_count
left_none box cs start limit left none empty is = record {
  all = [];
  names = [];
  before = record { all = λ others other_labels rest. rest };
  words = omega (arith, is);
  kept = λ few. (none, empty);
  small = omega (arith, is);
}

held_more : (box : List (List ℤ)) (cs : List Con) (n : ℕ) (c : Con) (ds : List Con) (labels : List ℕ) → n < length cs → c ≡ get_or cs n c → IsForm box c reduced.Holds → AreLeftBefore box cs n ds labels → AreLeftBefore box cs (suc n) ds labels
held_more box cs n c ds labels inside is form so_far = record {
  all = λ others other_labels left.
      let here : AreLeft box n (c ∷ drop (suc n) cs) others other_labels = (reduced.Holds, others, other_labels, form, (refl, refl), left) in
      let there : drop n cs ≡ c ∷ drop (suc n) cs = drop-cons cs n c inside ∙ ap (λ (x : Con). x ∷ drop (suc n) cs) (sym is) in
      so_far.all others other_labels (rw there here);
}

left_one : (box : List (List ℤ)) (cs : List Con) (n : ℕ) (c d : Con) (ds : List Con) (labels : List ℕ) → n < length cs → c ≡ get_or cs n c → IsForm box c (reduced.Is d) → AreLeftBefore box cs n ds labels → AreLeftBefore box cs (suc n) (ds ++ con_by (rest_term box) d ∷ []) (labels ++ n ∷ [])
left_one box cs n c d ds labels inside is form so_far = record {
  all = λ others other_labels left.
      let all = con_by (rest_term box) d ∷ others in
      let all_labels = n ∷ other_labels in
      let here : AreLeft box n (c ∷ drop (suc n) cs) all all_labels = (reduced.Is d, others, other_labels, form, (refl, refl), left) in
      let there : drop n cs ≡ c ∷ drop (suc n) cs = drop-cons cs n c inside ∙ ap (λ (x : Con). x ∷ drop (suc n) cs) (sym is) in
      rw (append_assoc ds (con_by (rest_term box) d ∷ []) others, append_assoc labels (n ∷ []) other_labels) (so_far.all all all_labels (rw there here));
}

more_by : (box : List (List ℤ)) (cs : List Con) (n start limit : ℕ) (c : Con) (old new : Labelled) (form : Reduced) → n < length cs → c ≡ get_or cs n c → AreCountedBefore box cs n start limit old → IsForm box c form → IsNext box form n limit old new → AreCountedBefore box cs (suc n) start limit new
more_by box cs n start limit c old new reduced.Holds inside is so_far form next = rw next (record {
  all = so_far.all;
  names = so_far.names;
  before = held_more box cs n c so_far.all so_far.names inside is form so_far.before;
  words = so_far.words;
  kept = so_far.kept;
  small = let most = so_far.small in omega (arith, most);
})
more_by box cs n start limit c old new (reduced.Is d) inside is so_far form next = record {
  all = so_far.all ++ con_by (rest_term box) d ∷ [];
  names = so_far.names ++ n ∷ [];
  before = left_one box cs n c d so_far.all so_far.names inside is form so_far.before;
  words = let more = one_more so_far.all (con_by (rest_term box) d) in let same = same_count (rest_term box) d in let was = so_far.words in let now = next.words in omega (arith, more, same, was, now);
  kept = λ few.
      let now = next.words in
      let both = so_far.kept (omega (arith, now, few)) in
      let last = next.kept few in
      (last.0 ∙ ap (λ (ds : List Con). ds ++ con_by (rest_term box) d ∷ []) both.0, last.1 ∙ ap (λ (ls : List ℕ). ls ++ n ∷ []) both.1);
  small = let most = so_far.small in let now = next.words in let few = next.small in omega (arith, most, now, few);
}

pub left_more : (box : List (List ℤ)) (cs : List Con) (n start limit : ℕ) (c : Con) (old new : Labelled) → n < length cs → c ≡ get_or cs n c → AreCountedBefore box cs n start limit old → IsAdded box c n limit old new → AreCountedBefore box cs (n + 1) start limit new
left_more box cs n start limit c old new inside is so_far one = rw add-one (more_by box cs n start limit c old new one.form inside is so_far one.is one.next)

pub left_all : (box : List (List ℤ)) (cs : List Con) (n start limit : ℕ) (left : Labelled) → AreCountedBefore box cs n start limit left → length cs ≡ n → AreCounted box cs start limit left
left_all box cs n start limit left so_far is =
    let none : drop n cs ≡ [] = rw (sym is) (drop-length cs) in
    let end : AreLeft box n (drop n cs) [] [] = rw none (refl, refl) in
    record {
      all = so_far.all;
      names = so_far.names;
      is = rw (append-nil so_far.all, append-nil so_far.names) at (so_far.before.all [] [] end);
      words = so_far.words;
      kept = so_far.kept;
    }
