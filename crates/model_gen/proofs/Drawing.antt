-- The numbers of the items that are drawn, one after another. The number of an item is its weight or its value, told by f.
use Rattle.std.proofs.Common.{◌≡◌, ℕ, suc, zero, ◌+◌, ◌*◌, ◌/◌, ◌%◌, ◌^◌, ◌≤◌, List, [], ◌∷◌, ◌++◌, length, map, refl, arith, append_assoc, ◌∙◌, sym, ap}
use Rattle.std.specs.Prelude.{All}
use Rattle.std.proofs.lemmas.List.{append-nil, length-map}
use Rattle.std.proofs.lemmas.List.Elements.{All-nil, All-cons, All-same}
use Rattle.model_gen.specs.Made.{next, draws, items}

-- the numbers so far, in front of those of the items that are left, are those of all items
pub record AreDrawn (f : ℕ × ℕ → ℕ) (start left state : ℕ) (numbers : List ℕ) : Type 0 where
  pub all : numbers ++ map f (items (draws (2 * left) state)) ≡ map f (items (draws 64 start))

one_drawn : (left state : ℕ) → items (draws (2 * (left + 1)) state) ≡ (1 + next state / 2 ^ 33 % 16, 1 + next (next state) / 2 ^ 33 % 24) ∷ items (draws (2 * left) (next (next state)))
unfolding draws items
one_drawn left state = let e : 2 * (left + 1) ≡ suc (suc (2 * left)) = omega arith in rw e refl

-- an item, whose weight is drawn first
pub record IsItem (state middle after weight value : ℕ) : Type 0 where
  pub first : middle ≡ next state
  pub second : after ≡ next middle
  pub weight_is : weight ≡ 1 + next state / 2 ^ 33 % 16
  pub value_is : value ≡ 1 + next middle / 2 ^ 33 % 24

pub drawn_more : (f : ℕ × ℕ → ℕ) (start left more state middle after weight value : ℕ) (numbers new : List ℕ) → left ≡ more + 1 → IsItem state middle after weight value → new ≡ numbers ++ f (weight, value) ∷ [] → AreDrawn f start left state numbers → AreDrawn f start more after new
drawn_more f start left more state middle after weight value numbers new one item new_is had =
    let here : items (draws (2 * left) state) ≡ (weight, value) ∷ items (draws (2 * more) after) = rw (one, item.weight_is, item.value_is, item.second, item.first) (one_drawn more state) in
    record { all = rw (new_is, append_assoc) (rw here at had.all) }

pub all_drawn : (f : ℕ × ℕ → ℕ) (start left state : ℕ) (numbers : List ℕ) → left ≡ 0 → AreDrawn f start left state numbers → numbers ≡ map f (items (draws 64 start))
unfolding draws items
all_drawn f start left state numbers none had =
    let here : numbers ++ map f (items (draws (2 * 0) state)) ≡ map f (items (draws 64 start)) = rw none at had.all in
    sym (append-nil numbers) ∙ here

-- how many items there are, and how great their numbers are
items_count : (left state : ℕ) → length (items (draws (2 * left) state)) ≡ left
unfolding draws items
items_count zero state = refl
items_count (suc left) state =
    let e : 2 * suc left ≡ suc (suc (2 * left)) = omega arith in
    rw e (ap suc (items_count left (next (next state))))

small : (f : ℕ × ℕ → ℕ) → ((w v : ℕ) → w ≤ 24 → v ≤ 24 → f (w, v) ≤ 24) → (ds : List ℕ) → All (λ n. n ≤ 24) (map f (items ds))
unfolding items
small f keeps [] = All-nil (λ (n : ℕ). n ≤ 24)
small f keeps (d ∷ []) = All-nil (λ (n : ℕ). n ≤ 24)
small f keeps (d ∷ e ∷ ds) = All-cons (λ (n : ℕ). n ≤ 24) _ _ (keeps (1 + d % 16) (1 + e % 24) (omega arith) (omega arith)) (small f keeps ds)

pub numbers_count : (f : ℕ × ℕ → ℕ) (start : ℕ) (numbers : List ℕ) → numbers ≡ map f (items (draws 64 start)) → length numbers ≡ 32
numbers_count f start numbers are = rw (are, length-map) (items_count 32 start)

pub numbers_small : (f : ℕ × ℕ → ℕ) → ((w v : ℕ) → w ≤ 24 → v ≤ 24 → f (w, v) ≤ 24) → (start : ℕ) (numbers : List ℕ) → numbers ≡ map f (items (draws 64 start)) → All (λ n. n ≤ 24) numbers
numbers_small f keeps start numbers are = All-same (λ (n : ℕ). n ≤ 24) _ _ are (small f keeps (draws 64 start))
