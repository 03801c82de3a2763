-- Equal words are equal parts: for each part, where its words in front of others are those of another part in front of
-- others, both the parts and the others are equal.
use Rattle.std.proofs.Common.{◌≡◌, ℕ, List, [], ◌∷◌, ◌++◌, length, refl, ap, sym, ◌∙◌, arith, append_assoc, ℤ, pos, ◌≤ℤ◌, Bool, true, false}
use Rattle.std.specs.List.{flat_map}
use Rattle.std.proofs.lemmas.Int.{ints}
use Rattle.fzn_model.specs.Meaning.{bit}
use Rattle.fzn_model.specs.declared.term.Term.{Term}
use Rattle.fzn_model.specs.declared.term.Term.TheVariants as term
use Rattle.fzn_model.specs.declared.lin.Rel.{Rel}
use Rattle.fzn_model.specs.declared.lin.Rel.TheVariants as rel
use Rattle.fzn_model.specs.declared.lin.Lin.{Lin}
use Rattle.fzn_model.specs.declared.base.Base.{Base}
use Rattle.fzn_model.specs.declared.base.Base.TheVariants as base
use Rattle.fzn_model.specs.declared.con.Con.{Con}
use Rattle.fzn_model.specs.declared.con.Con.TheVariants as con
use Rattle.fzn_model.specs.Rests.{RestParts, IsRest}
use Rattle.rest_key.specs.Words.{term_words, list_words, number_words, run_words, set_words, linear_term_words, cost_words, task_words, used_words, rel_number, base_number, kind_number, base_parts, con_parts, labelled, words_of}

-- the parts are equal, and what stands behind them
record Same {X : Type 0} (x y : X) (m n : List ℤ) : Type 0 where
  parts : x ≡ y
  more : m ≡ n

abbrev Reads : {X : Type 0} → (X → List ℤ) → Type 0
Reads {X} words = (x y : X) (m n : List ℤ) → words x ++ m ≡ words y ++ n → Same x y m n

-- lists by their first members
record Split (x y : ℤ) (m n : List ℤ) : Type 0 where
  first : x ≡ y
  more : m ≡ n

split : (x y : ℤ) (m n : List ℤ) → x ∷ m ≡ y ∷ n → Split x y m n
split x y m n e = record { first = (cc); more = (cc) }

natural : (i j : ℕ) → pos i ≡ pos j → i ≡ j
natural i j e = cc

-- two parts, one behind the other
record Both {X Y : Type 0} (x x' : X) (y y' : Y) (m n : List ℤ) : Type 0 where
  one : x ≡ x'
  two : y ≡ y'
  more : m ≡ n

both : {X Y : Type 0} (f : X → List ℤ) (g : Y → List ℤ) → Reads f → Reads g → (x x' : X) (y y' : Y) (m n : List ℤ) → (f x ++ g y) ++ m ≡ (f x' ++ g y') ++ n → Both x x' y y' m n
both f g p q x x' y y' m n e =
    let a = p x x' (g y ++ m) (g y' ++ n) (sym (append_assoc (f x) (g y) m) ∙ e ∙ append_assoc (f x') (g y') n) in
    let b = q y y' m n a.more in
    record { one = a.parts; two = b.parts; more = b.more }

reads_term : Reads term_words
reads_term (term.Const z) (term.Const w) m n e = let s = split _ _ _ _ (split _ _ _ _ e).more in record { parts = ap term.Const s.first; more = s.more }
reads_term (term.Const z) (term.Var k) m n e = absurd (let s : pos 0 ≡ pos 1 = (split _ _ _ _ e).first in omega (arith, ints, s))
reads_term (term.Var k) (term.Const z) m n e = absurd (let s : pos 1 ≡ pos 0 = (split _ _ _ _ e).first in omega (arith, ints, s))
reads_term (term.Var k) (term.Var l) m n e = let s = split _ _ _ _ (split _ _ _ _ e).more in record { parts = ap term.Var (natural _ _ s.first); more = s.more }

reads_number : Reads number_words
reads_number z w m n e = let s = split _ _ _ _ e in record { parts = s.first; more = s.more }

reads_run : Reads run_words
reads_run r s m n e = let p = split _ _ _ _ e in let q = split _ _ _ _ p.more in record { parts = λ i. (p.first i, q.first i); more = q.more }

reads_cost : Reads cost_words
reads_cost r s m n e = let p = split _ _ _ _ e in let q = split _ _ _ _ p.more in record { parts = λ i. (p.first i, natural _ _ q.first i); more = q.more }

reads_linear_term : Reads linear_term_words
reads_linear_term r s m n e = let p = split _ _ _ _ e in let q = reads_term r.1 s.1 m n p.more in record { parts = λ i. (p.first i, q.parts i); more = q.more }

reads_used : Reads used_words
reads_used r s m n e = let p = split _ _ _ _ e in let q = split _ _ _ _ p.more in let t = split _ _ _ _ q.more in record { parts = λ i. record { from = p.first i; to = q.first i; amount = t.first i }; more = t.more }

-- three parts
record Triple {X Y Z : Type 0} (x x' : X) (y y' : Y) (z z' : Z) (m n : List ℤ) : Type 0 where
  one : x ≡ x'
  two : y ≡ y'
  three : z ≡ z'
  more : m ≡ n

triple : {X Y Z : Type 0} (f : X → List ℤ) (g : Y → List ℤ) (h : Z → List ℤ) → Reads f → Reads g → Reads h → (x x' : X) (y y' : Y) (z z' : Z) (m n : List ℤ) → (f x ++ g y ++ h z) ++ m ≡ (f x' ++ g y' ++ h z') ++ n → Triple x x' y y' z z' m n
triple f g h p q r x x' y y' z z' m n e =
    let a = both f g p q x x' y y' (h z ++ m) (h z' ++ n) (sym (append_assoc (f x ++ g y) (h z) m) ∙ e ∙ append_assoc (f x' ++ g y') (h z') n) in
    let b = r z z' m n a.more in
    record { one = a.one; two = a.two; three = b.parts; more = b.more }

reads_task : Reads task_words
reads_task k l m n e = let p = triple term_words term_words term_words reads_term reads_term reads_term k.s l.s k.d l.d k.r l.r m n e in record { parts = λ i. record { s = p.one i; d = p.two i; r = p.three i }; more = p.more }

-- as many members, each read by itself
members : {X : Type 0} (f : X → List ℤ) → Reads f → (xs ys : List X) (m n : List ℤ) → length xs ≡ length ys → flat_map f xs ++ m ≡ flat_map f ys ++ n → Same xs ys m n
members f p [] [] m n l e = record { parts = refl; more = e }
members f p [] (y ∷ ys) m n l e = absurd (omega arith)
members f p (x ∷ xs) [] m n l e = absurd (omega arith)
members f p (x ∷ xs) (y ∷ ys) m n l e =
    let a = p x y (flat_map f xs ++ m) (flat_map f ys ++ n) (sym (append_assoc (f x) (flat_map f xs) m) ∙ e ∙ append_assoc (f y) (flat_map f ys) n) in
    let b = members f p xs ys m n (omega arith) a.more in
    record { parts = λ i. a.parts i ∷ b.parts i; more = b.more }

reads_list : {X : Type 0} (f : X → List ℤ) → Reads f → Reads (list_words f)
reads_list f p xs ys m n e = let s = split _ _ _ _ e in members f p xs ys m n (natural _ _ s.first) s.more

reads_terms : Reads (list_words term_words)
reads_terms = reads_list term_words reads_term

reads_set : Reads set_words
reads_set = reads_list run_words reads_run

reads_numbers : Reads (list_words number_words)
reads_numbers = reads_list number_words reads_number

rel_same : (a b : Rel) → rel_number a ≡ rel_number b → a ≡ b
rel_same rel.Le rel.Le e = refl
rel_same rel.Eq rel.Eq e = refl
rel_same rel.Ne rel.Ne e = refl
rel_same _ _ e = absurd (omega (arith, ints, e))

-- with the number of the kind in front
base_words : Base → List ℤ
base_words b = base_number b ∷ base_parts b

reads_lin : (l k : Lin) (m n : List ℤ) → rel_number l.rel ≡ rel_number k.rel → (list_words linear_term_words l.terms ++ l.r ∷ []) ++ m ≡ (list_words linear_term_words k.terms ++ k.r ∷ []) ++ n → Same l k m n
reads_lin l k m n h e =
    let p = both (list_words linear_term_words) number_words (reads_list linear_term_words reads_linear_term) reads_number l.terms k.terms l.r k.r m n e in
    let q = rel_same l.rel k.rel h in
    record { parts = λ i. record { rel = q i; terms = p.one i; r = p.two i }; more = p.more }

rel_low : (r : Rel) → rel_number r ≤ℤ pos 3
rel_low rel.Le = omega (arith, ints)
rel_low rel.Eq = omega (arith, ints)
rel_low rel.Ne = omega (arith, ints)

reads_base : (b c : Base) (m n : List ℤ) → base_number b ∷ base_parts b ++ m ≡ base_number c ∷ base_parts c ++ n → Same b c m n
reads_base (base.Lin l) (base.Lin k) m n e = let s = split _ _ _ _ e in let p = reads_lin l k m n s.first s.more in record { parts = ap base.Lin p.parts; more = p.more }
reads_base (base.Clause c) (base.Clause d) m n e =
    let s = split _ _ _ _ e in
    let p = both (list_words term_words) (list_words term_words) reads_terms reads_terms c.pos d.pos c.neg d.neg m n s.more in
    record { parts = ap base.Clause (λ i. record { pos = p.one i; neg = p.two i }); more = p.more }
reads_base (base.Member c) (base.Member d) m n e =
    let s = split _ _ _ _ e in
    let p = both term_words set_words reads_term reads_set c.x d.x c.set d.set m n s.more in
    record { parts = ap base.Member (λ i. record { x = p.one i; set = p.two i }); more = p.more }
reads_base (base.Lin l) (base.Clause d) m n e = absurd (let s = (split _ _ _ _ e).first in let p = rel_low l.rel in omega (arith, ints, s, p))
reads_base (base.Lin l) (base.Member d) m n e = absurd (let s = (split _ _ _ _ e).first in let p = rel_low l.rel in omega (arith, ints, s, p))
reads_base (base.Clause c) (base.Lin l) m n e = absurd (let s = (split _ _ _ _ e).first in let p = rel_low l.rel in omega (arith, ints, s, p))
reads_base (base.Member c) (base.Lin l) m n e = absurd (let s = (split _ _ _ _ e).first in let p = rel_low l.rel in omega (arith, ints, s, p))
reads_base _ _ m n e = absurd (let s = (split _ _ _ _ e).first in omega (arith, ints, s))

bit_same : (f g : Bool) → bit f ≡ bit g → f ≡ g
bit_same true true e = refl
bit_same false false e = refl
bit_same _ _ e = absurd (omega (arith, ints, e))

flag_words : Bool → List ℤ
flag_words f = bit f ∷ []

base_low : (b : Base) → base_number b ≤ℤ pos 5
base_low (base.Lin l) = let p = rel_low l.rel in omega (arith, ints, p)
base_low (base.Clause c) = omega (arith, ints)
base_low (base.Member m) = omega (arith, ints)

reads_flag : Reads flag_words
unfolding flag_words
reads_flag f g m n e = let s = split _ _ _ _ e in record { parts = bit_same f g s.first; more = s.more }

record ReifSame (b c : Base) (r t : Term) (f g : Bool) (m n : List ℤ) : Type 0 where
  one : b ≡ c
  two : r ≡ t
  three : f ≡ g
  more : m ≡ n

reads_reif : (b c : Base) (r t : Term) (f g : Bool) (m n : List ℤ) → (base_number b ∷ base_parts b ++ term_words r ++ bit f ∷ []) ++ m ≡ (base_number c ∷ base_parts c ++ term_words t ++ bit g ∷ []) ++ n → ReifSame b c r t f g m n
unfolding flag_words
reads_reif b c r t f g m n e =
    let left = append_assoc (base_parts b ++ term_words r) (flag_words f) m ∙ append_assoc (base_parts b) (term_words r) (flag_words f ++ m) in
    let right = append_assoc (base_parts c ++ term_words t) (flag_words g) n ∙ append_assoc (base_parts c) (term_words t) (flag_words g ++ n) in
    let s = split _ _ _ _ e in
    let p = reads_base b c (term_words r ++ (flag_words f ++ m)) (term_words t ++ (flag_words g ++ n)) (λ i. s.first i ∷ (sym left ∙ s.more ∙ right) i) in
    let q = reads_term r t (flag_words f ++ m) (flag_words g ++ n) p.more in
    let u = reads_flag f g m n q.more in
    record { one = p.parts; two = q.parts; three = u.parts; more = u.more }

reads_con : (c d : Con) (m n : List ℤ) → kind_number c ∷ con_parts c ++ m ≡ kind_number d ∷ con_parts d ++ n → Same c d m n
reads_con (con.Base b) (con.Base c) m n e = let p = reads_base b c m n e in record { parts = ap con.Base p.parts; more = p.more }
reads_con (con.Reif b r f) (con.Reif c t g) m n e = let p = reads_reif b c r t f g m n (split _ _ _ _ e).more in record { parts = λ i. con.Reif (p.one i) (p.two i) (p.three i); more = p.more }
reads_con (con.Times x y z) (con.Times x' y' z') m n e = let p = triple term_words term_words term_words reads_term reads_term reads_term x x' y y' z z' m n (split _ _ _ _ e).more in record { parts = λ i. con.Times (p.one i) (p.two i) (p.three i); more = p.more }
reads_con (con.Abs x y) (con.Abs x' y') m n e = let p = both term_words term_words reads_term reads_term x x' y y' m n (split _ _ _ _ e).more in record { parts = λ i. con.Abs (p.one i) (p.two i); more = p.more }
reads_con (con.Div x y z) (con.Div x' y' z') m n e = let p = triple term_words term_words term_words reads_term reads_term reads_term x x' y y' z z' m n (split _ _ _ _ e).more in record { parts = λ i. con.Div (p.one i) (p.two i) (p.three i); more = p.more }
reads_con (con.Mod x y z) (con.Mod x' y' z') m n e = let p = triple term_words term_words term_words reads_term reads_term reads_term x x' y y' z z' m n (split _ _ _ _ e).more in record { parts = λ i. con.Mod (p.one i) (p.two i) (p.three i); more = p.more }
reads_con (con.Greatest x xs) (con.Greatest y ys) m n e = let p = both term_words (list_words term_words) reads_term reads_terms x y xs ys m n (split _ _ _ _ e).more in record { parts = λ i. con.Greatest (p.one i) (p.two i); more = p.more }
reads_con (con.Least x xs) (con.Least y ys) m n e = let p = both term_words (list_words term_words) reads_term reads_terms x y xs ys m n (split _ _ _ _ e).more in record { parts = λ i. con.Least (p.one i) (p.two i); more = p.more }
reads_con (con.Element x xs z) (con.Element y ys w) m n e = let p = triple term_words (list_words term_words) term_words reads_term reads_terms reads_term x y xs ys z w m n (split _ _ _ _ e).more in record { parts = λ i. con.Element (p.one i) (p.two i) (p.three i); more = p.more }
reads_con (con.AllDiffExcept xs zs) (con.AllDiffExcept ys ws) m n e = let p = both (list_words term_words) (list_words number_words) reads_terms reads_numbers xs ys zs ws m n (split _ _ _ _ e).more in record { parts = λ i. con.AllDiffExcept (p.one i) (p.two i); more = p.more }
reads_con (con.CumulUsed ks us b) (con.CumulUsed ls vs c) m n e = let p = triple (list_words task_words) (list_words used_words) term_words (reads_list task_words reads_task) (reads_list used_words reads_used) reads_term ks ls us vs b c m n (split _ _ _ _ e).more in record { parts = λ i. con.CumulUsed (p.one i) (p.two i) (p.three i); more = p.more }
reads_con (con.Table xs zs) (con.Table ys ws) m n e = let p = both (list_words term_words) (list_words number_words) reads_terms reads_numbers xs ys zs ws m n (split _ _ _ _ e).more in record { parts = λ i. con.Table (p.one i) (p.two i); more = p.more }
reads_con (con.Base b) d m n e = absurd (let s = (split _ _ _ _ e).first in let p = base_low b in omega (arith, ints, s, p))
reads_con c (con.Base b) m n e = absurd (let s = (split _ _ _ _ e).first in let p = base_low b in omega (arith, ints, s, p))
reads_con _ _ m n e = absurd (let s = (split _ _ _ _ e).first in omega (arith, ints, s))

record AllSame (cs ds : List Con) (ls ks : List ℕ) : Type 0 where
  cons : cs ≡ ds
  labels : ls ≡ ks

reads_labelled : (cs ds : List Con) (ls ks : List ℕ) → length cs ≡ length ds → length ls ≡ length cs → length ks ≡ length ds → labelled con_parts cs ls ≡ labelled con_parts ds ks → AllSame cs ds ls ks
reads_labelled [] [] [] [] h i j e = record { cons = refl; labels = refl }
reads_labelled (c ∷ cs) (d ∷ ds) (l ∷ ls) (k ∷ ks) h i j e =
    let s = split _ _ _ _ e in
    let p = reads_con c d (labelled con_parts cs ls) (labelled con_parts ds ks) s.more in
    let q = reads_labelled cs ds ls ks (omega arith) (omega arith) (omega arith) p.more in
    let t = natural l k s.first in
    record { cons = λ i. p.parts i ∷ q.cons i; labels = λ i. t i ∷ q.labels i }
reads_labelled _ _ _ _ h i j e = absurd (omega arith)

pub equal_words : (r s : RestParts) → IsRest r → IsRest s → words_of r ≡ words_of s → r ≡ s
unfolding words_of
equal_words r s k l e =
    let a = both (list_words set_words) (list_words cost_words) (reads_list set_words reads_set) (reads_list cost_words reads_cost) r.doms s.doms r.cost s.cost _ _ e in
    let c = split _ _ _ _ a.more in
    let d = reads_labelled r.cons s.cons r.labels s.labels (natural _ _ c.first) k.labelled l.labelled c.more in
    λ i. record { doms = a.one i; cost = a.two i; cons = d.cons i; labels = d.labels i }
