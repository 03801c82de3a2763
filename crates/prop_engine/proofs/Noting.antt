-- Which propagators read a variable.
use Rattle.std.proofs.Common.{◌≡◌, ◌≢◌, ℕ, zero, suc, ◌+◌, ◌<◌, ◌≤◌, ℤ, List, [], ◌∷◌, ◌++◌, length, get_or, set, take, replicate, refl, sym, ap, subst, ◌∙◌, arith, inl, inr, get_or-set_same, get_or-set_other, length-set}
use Rattle.std.specs.Prelude.{◌-◌, map, Contains, All}
use Rattle.std.proofs.lemmas.Bool.{cases_eq}
use Rattle.std.proofs.lemmas.List.{take_more, take_all, map_more, get_or_default}
use Rattle.std.proofs.lemmas.List.Elements.{All-append, All-cons, All-nil, All-map, All-head, All-tail, Contains-append_left, Contains-push, Contains-push_cases, Contains-get_or}
use Rattle.std.proofs.lemmas.List.Quantifiers.{all_pairs_push}
use Rattle.fzn_model.specs.declared.con.Con.{Con}
use Rattle.fzn_model.specs.declared.term.Term.{Term}
use Rattle.fzn_model.specs.declared.term.Term.TheVariants as term
use Rattle.fzn_model.specs.declared.lin.Lin.{Lin}
use Rattle.fzn_model.specs.declared.cumulative.CumTask.{CumTask}
use Rattle.fzn_model.specs.Limits.{TermIn, LinInLimits, TasksInLimits, of_model}
use Rattle.fzn_model.specs.Named.{con_terms}
use Rattle.prop_engine.specs.declared.event.Event.{Event}
use Rattle.prop_engine.specs.declared.event.Event.TheVariants as event
use Rattle.prop_engine.specs.declared.readers.Readers.{Readers}
use Rattle.prop_engine.specs.Events.{con_event}
use Rattle.prop_engine.specs.Readers.{Reads, ReadsTerm, RiseTo, IsNotLast, Adds, IsNoted, Notes, hearing, NotesFor, ReadsTask, NotesTasks, AreRead, TaskIn}

abbrev Lists : Type 0
Lists = List (List ℕ)

-- ---- what is added
adds_none : (at : ℕ) (rs : Lists) → Adds at rs rs
adds_none at rs = record { count = refl; kept = λ k j h. h; only = λ k j h. inl h; rise = λ rises. rises }

adds_then : (at : ℕ) (a b c : Lists) → Adds at a b → Adds at b c → Adds at a c
adds_then at a b c first then = record {
  count = then.count ∙ first.count;
  kept = λ k j h. then.kept k j (first.kept k j h);
  only = λ k j h. elim (then.only k j h) [ inl before ↦ first.only k j before | inr here ↦ inr here ];
  rise = λ rises. then.rise (first.rise rises);
}

reads_stay : (at j : ℕ) (old new : Lists) (t : Term) → Adds at old new → ReadsTerm old j t → ReadsTerm new j t
reads_stay at j old new (term.Const z) adds reads = tt
reads_stay at j old new (term.Var k) adds reads = adds.kept k j reads

-- ---- a variable
-- behind numbers that rise up to one, and of which it isn't the last, that one stands once
rise_push : (at : ℕ) (xs : List ℕ) → IsNotLast xs at → RiseTo at xs → RiseTo at (xs ++ at ∷ [])
unfolding IsNotLast
rise_push at xs apart rises = record {
  rising = all_pairs_push (λ i j. i < j) xs at rises.rising less;
  most = λ j has. elim (Contains-push_cases xs at j has) [ inl before ↦ rises.most j before | inr here ↦ omega (arith, here) ];
}
  where
    last_less : (n : ℕ) → length xs ≡ n + 1 → get_or xs n 0 < at
    last_less n long =
        let most = rises.most (get_or xs n 0) (Contains-get_or xs n 0 (omega (arith, long))) in
        let other = apart n long in
        omega (arith, most, other)

    less : (k d : ℕ) → k < length xs → get_or xs k d < at
    less k d h =
        let n : ℕ = length xs - 1 in
        let last : get_or xs n 0 < at = last_less n (omega (arith, h)) in
        elim (cases_eq k n) [
          | inl same ↦ (let e : get_or xs k d ≡ get_or xs n 0 = ap (λ i. get_or xs i d) same ∙ get_or_default xs n d 0 (omega (arith, h)) in omega (arith, e, last))
          | inr apart ↦ (let order = rises.rising k n 0 (omega (arith, h, apart)) (omega (arith, h)) in let e = get_or_default xs k d 0 h in omega (arith, e, order, last))
        ]

pub noted_before : (var at : ℕ) (rs : Lists) → Reads rs var at → IsNoted var at rs rs
noted_before var at rs reads = record { adds = adds_none at rs; made = reads }

pub noted_last : (var at : ℕ) (old new : Lists) → var < length old → IsNotLast (get_or old var []) at → new ≡ set old var (get_or old var [] ++ at ∷ []) → IsNoted var at old new
noted_last var at old new inside fresh is = record {
  adds = record {
    count = ap length is ∙ length-set old var _;
    kept = λ k j h. elim (cases_eq k var) [
      | inl same ↦ subst (λ (xs : List ℕ). Contains xs j) (sym (here k same)) (Contains-append_left (get_or old var []) (at ∷ []) j (subst (λ i. Reads old i j) same h))
      | inr apart ↦ subst (λ (xs : List ℕ). Contains xs j) (sym (there k apart)) h
    ];
    only = λ k j h. elim (cases_eq k var) [
      | inl same ↦ elim (Contains-push_cases (get_or old var []) at j (subst (λ (xs : List ℕ). Contains xs j) (here k same) h)) [ inl before ↦ inl (subst (λ i. Reads old i j) (sym same) before) | inr last ↦ inr (sym last) ]
      | inr apart ↦ inl (subst (λ (xs : List ℕ). Contains xs j) (there k apart) h)
    ];
    rise = λ rises k. elim (cases_eq k var) [
      | inl same ↦ subst (RiseTo at) (sym (here k same)) (rise_push at (get_or old var []) fresh (rises var))
      | inr apart ↦ subst (RiseTo at) (sym (there k apart)) (rises k)
    ];
  };
  made = subst (λ (xs : List ℕ). Contains xs at) (sym (here var refl)) (Contains-push (get_or old var []) at);
}
  where
    here : (k : ℕ) → k ≡ var → get_or new k [] ≡ get_or old var [] ++ at ∷ []
    here k same = ap (λ i. get_or new i []) same ∙ ap (λ (rs : Lists). get_or rs var []) is ∙ get_or-set_same old var (get_or old var [] ++ at ∷ []) [] inside

    there : (k : ℕ) → k ≢ var → get_or new k [] ≡ get_or old k []
    there k apart = ap (λ (rs : Lists). get_or rs k []) is ∙ get_or-set_other old var k (get_or old var [] ++ at ∷ []) [] apart

-- ---- terms
pub notes_none : (at : ℕ) (rs : Lists) → Notes [] at rs rs
unfolding Notes
notes_none at rs = record { adds = adds_none at rs; made = All-nil (ReadsTerm rs at) }

pub notes_then : (at : ℕ) (ts us : List Term) (a b c : Lists) → Notes ts at a b → Notes us at b c → Notes (ts ++ us) at a c
unfolding Notes
notes_then at ts us a b c first then = record {
  adds = adds_then at a b c first.adds then.adds;
  made = All-append (ReadsTerm c at) ts us (λ i d h. reads_stay at at b c _ then.adds (first.made i d h)) then.made;
}

pub notes_const : (z : ℤ) (at : ℕ) (rs : Lists) → Notes (term.Const z ∷ []) at rs rs
unfolding Notes
notes_const z at rs = record { adds = adds_none at rs; made = All-cons (ReadsTerm rs at) (term.Const z) [] tt (All-nil (ReadsTerm rs at)) }

pub notes_var : (var at : ℕ) (old new : Lists) → IsNoted var at old new → Notes (term.Var var ∷ []) at old new
unfolding Notes
notes_var var at old new noted = record { adds = noted.adds; made = All-cons (ReadsTerm new at) (term.Var var) [] noted.made (All-nil (ReadsTerm new at)) }

-- one term more
pub notes_more : (at i : ℕ) (d : Term) (ts : List Term) (a b c : Lists) → i < length ts → Notes (take i ts) at a b → Notes (get_or ts i d ∷ []) at b c → Notes (take (i + 1) ts) at a c
notes_more at i d ts a b c h first then = subst (λ (us : List Term). Notes us at a c) (sym (take_more ts i d h)) (notes_then at (take i ts) (get_or ts i d ∷ []) a b c first then)

pub notes_all : (at i : ℕ) (ts : List Term) (a b : Lists) → length ts ≤ i → Notes (take i ts) at a b → Notes ts at a b
notes_all at i ts a b h notes = subst (λ (us : List Term). Notes us at a b) (take_all i ts h) notes

-- one term of a sum more
pub parts_more : (at i : ℕ) (d : ℤ × Term) (ps : List (ℤ × Term)) (a b c : Lists) → i < length ps → Notes (map (λ q. q.1) (take i ps)) at a b → Notes ((get_or ps i d).1 ∷ []) at b c → Notes (map (λ q. q.1) (take (i + 1) ps)) at a c
parts_more at i d ps a b c h first then = subst (λ (us : List Term). Notes us at a c) (sym (map_more (λ (q : ℤ × Term). q.1) ps i d h)) (notes_then at (map (λ (q : ℤ × Term). q.1) (take i ps)) ((get_or ps i d).1 ∷ []) a b c first then)

pub parts_all : (at i : ℕ) (ps : List (ℤ × Term)) (a b : Lists) → length ps ≤ i → Notes (map (λ q. q.1) (take i ps)) at a b → Notes (map (λ q. q.1) ps) at a b
parts_all at i ps a b h notes = subst (λ (qs : List (ℤ × Term)). Notes (map (λ q. q.1) qs) at a b) (take_all i ps h) notes

pub notes_front : (at : ℕ) (t : Term) (ts : List Term) (a b c : Lists) → Notes (t ∷ []) at a b → Notes ts at b c → Notes (t ∷ ts) at a c
notes_front at t ts a b c first then = notes_then at (t ∷ []) ts a b c first then

-- ---- tasks
pub tasks_none : (at : ℕ) (rs : Lists) → NotesTasks [] at rs rs
tasks_none at rs = record { adds = adds_none at rs; made = All-nil (ReadsTask rs at) }

task_stays : (at : ℕ) (old new : Lists) (k : CumTask) → Adds at old new → ReadsTask old at k → ReadsTask new at k
task_stays at old new k adds reads = record { s = reads_stay at at old new k.s adds reads.s; d = reads_stay at at old new k.d adds reads.d; r = reads_stay at at old new k.r adds reads.r }

task_read : (rs : Lists) (at : ℕ) (k : CumTask) → All (ReadsTerm rs at) (k.s ∷ k.d ∷ k.r ∷ []) → ReadsTask rs at k
task_read rs at k all =
    let later = All-tail (ReadsTerm rs at) k.s (k.d ∷ k.r ∷ []) all in
    record { s = All-head (ReadsTerm rs at) k.s (k.d ∷ k.r ∷ []) all; d = All-head (ReadsTerm rs at) k.d (k.r ∷ []) later; r = All-head (ReadsTerm rs at) k.r [] (All-tail (ReadsTerm rs at) k.d (k.r ∷ []) later) }

-- one task more
pub tasks_more : (at i : ℕ) (d : CumTask) (ks : List CumTask) (a b c : Lists) → i < length ks → NotesTasks (take i ks) at a b → Notes ((get_or ks i d).s ∷ (get_or ks i d).d ∷ (get_or ks i d).r ∷ []) at b c → NotesTasks (take (i + 1) ks) at a c
unfolding Notes
tasks_more at i d ks a b c h first then = record {
  adds = adds_then at a b c first.adds then.adds;
  made = subst (All (ReadsTask c at)) (sym (take_more ks i d h)) (All-append (ReadsTask c at) (take i ks) (get_or ks i d ∷ []) (λ j e g. task_stays at b c _ then.adds (first.made j e g)) (All-cons (ReadsTask c at) (get_or ks i d) [] (task_read c at (get_or ks i d) then.made) (All-nil (ReadsTask c at))));
}

task_terms : (rs : Lists) (at : ℕ) (ks : List CumTask) → All (ReadsTask rs at) ks → All (ReadsTerm rs at) (map (λ k. k.s) ks ++ map (λ k. k.d) ks ++ map (λ k. k.r) ks)
task_terms rs at ks all =
    let P = ReadsTerm rs at in
    let starts : List Term = map (λ k. k.s) ks in
    let lengths : List Term = map (λ k. k.d) ks in
    let uses : List Term = map (λ k. k.r) ks in
    All-append P (starts ++ lengths) uses (All-append P starts lengths
    (All-map P (λ (k : CumTask). k.s) ks (λ i d h. (all i d h).s))
    (All-map P (λ (k : CumTask). k.d) ks (λ i d h. (all i d h).d)))
    (All-map P (λ (k : CumTask). k.r) ks (λ i d h. (all i d h).r))

pub tasks_all : (at i : ℕ) (ks : List CumTask) (a b : Lists) → length ks ≤ i → NotesTasks (take i ks) at a b → Notes (map (λ k. k.s) ks ++ map (λ k. k.d) ks ++ map (λ k. k.r) ks) at a b
unfolding Notes
tasks_all at i ks a b h notes = record { adds = notes.adds; made = task_terms b at ks (subst (All (ReadsTask b at)) (take_all i ks h) notes.made) }

-- ---- all propagators
nothing : (xs : List ℕ) → xs ≡ [] → (j : ℕ) → Contains xs j → ⊥
nothing xs e j has = let less = has.1 in let long : length xs ≡ 0 = ap length e in omega (arith, less, long)

none_at : (n k : ℕ) → ◌≡◌ {A = List ℕ} (get_or (replicate n []) k []) []
none_at zero k = refl
none_at (suc n) zero = refl
none_at (suc n) (suc k) = none_at n k

pub read_none : (cs : List Con) (count : ℕ) → AreRead cs 0 (record { changed = replicate count []; fixed = replicate count [] })
read_none cs count = record {
  each = λ j d h. absurd (omega (arith, h));
  below = λ e k j reads. absurd (none e k j reads);
  rising = λ e k i j d less h. absurd (none e k _ (Contains-get_or _ j d h));
}
  where
    none : (e : Event) (k j : ℕ) → Reads (hearing e (record { changed = replicate count []; fixed = replicate count [] })) k j → ⊥
    none event.Changed k j reads = nothing (get_or (replicate count []) k []) (none_at count k) j reads
    none event.Fixed k j reads = nothing (get_or (replicate count []) k []) (none_at count k) j reads

-- what noting a propagator for one event does to the readers of each
adds_for : (e f : Event) (ts : List Term) (at : ℕ) (old new : Readers) → NotesFor e ts at old new → Adds at (hearing f old) (hearing f new)
unfolding NotesFor Notes
adds_for event.Changed event.Changed ts at old new notes = notes.0.adds
adds_for event.Changed event.Fixed ts at old new notes = subst (Adds at old.fixed) (sym notes.1) (adds_none at old.fixed)
adds_for event.Fixed event.Changed ts at old new notes = subst (Adds at old.changed) (sym notes.0) (adds_none at old.changed)
adds_for event.Fixed event.Fixed ts at old new notes = notes.1.adds

made_for : (e : Event) (ts : List Term) (at : ℕ) (old new : Readers) → NotesFor e ts at old new → All (ReadsTerm (hearing e new) at) ts
unfolding NotesFor Notes
made_for event.Changed ts at old new notes = notes.0.made
made_for event.Fixed ts at old new notes = notes.1.made

pub notes_changed : (e : Event) (ts : List Term) (at : ℕ) (old new : Readers) → e ≡ event.Changed → Notes ts at old.changed new.changed → new.fixed ≡ old.fixed → NotesFor e ts at old new
unfolding NotesFor
notes_changed e ts at old new is notes same = subst (λ f. NotesFor f ts at old new) (sym is) (notes, same)

pub notes_fixed : (e : Event) (ts : List Term) (at : ℕ) (old new : Readers) → e ≡ event.Fixed → new.changed ≡ old.changed → Notes ts at old.fixed new.fixed → NotesFor e ts at old new
unfolding NotesFor
notes_fixed e ts at old new is same notes = subst (λ f. NotesFor f ts at old new) (sym is) (same, notes)

pub read_more : (cs : List Con) (at : ℕ) (c : Con) (old new : Readers) → at < length cs → c ≡ get_or cs at c → AreRead cs at old → NotesFor (con_event c) (con_terms c) at old new → AreRead cs (at + 1) new
read_more cs at c old new h is read notes = record {
  each = λ j d less. elim (cases_eq j at) [
    | inl same ↦ subst (λ (x : Con). All (ReadsTerm (hearing (con_event x) new) j) (con_terms x)) (is ∙ get_or_default cs at c d h ∙ ap (λ i. get_or cs i d) (sym same)) (subst (λ i. All (ReadsTerm (hearing (con_event c) new) i) (con_terms c)) (sym same) (made_for (con_event c) (con_terms c) at old new notes))
    | inr apart ↦ λ i e g. reads_stay at j _ _ _ (adds_for (con_event c) (con_event (get_or cs j d)) (con_terms c) at old new notes) (read.each j d (omega (arith, less, apart)) i e g)
  ];
  below = λ e k j reads. elim ((adds_for (con_event c) e (con_terms c) at old new notes).only k j reads) [
    | inl before ↦ (let was = read.below e k j before in omega (arith, was))
    | inr here ↦ omega (arith, here)
  ];
  rising = λ e k. ((adds_for (con_event c) e (con_terms c) at old new notes).rise (λ i. record { rising = read.rising e i; most = λ j has. let less = read.below e i j has in omega (arith, less) }) k).rising;
}

-- ---- what is over the variables
pub sum_in : (n : ℕ) (l : Lin) → LinInLimits of_model n l → All (λ p. TermIn n p.1) l.terms
sum_in n l kept = kept.sum.terms

pub tasks_in : (n : ℕ) (tasks : List CumTask) → TasksInLimits n tasks → All (TaskIn n) tasks
tasks_in n tasks kept k d h = let one = kept.terms k d h in record { s = one.0; d = one.1; r = one.2 }
