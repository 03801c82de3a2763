-- What a store holds: the domains, those of the levels below, those at the latest settling, and which variables were narrowed.
use Rattle.std.specs.Prelude.{◌≡◌, ℕ, ◌+◌, ◌-◌, ◌^◌, ◌≤◌, min, Bool, List, [], ◌∷◌, length, ℤ, All, Any, Contains, Option, None, IfSome, ⊤}
use Rattle.std.specs.List.{sum_by}
use Rattle.fzn_model.specs.Boxes.{IsBox, domain_at}

pub record Stored : Type 0 where
  -- the values of each variable, rising
  pub box : List (List ℤ)
  -- the boxes at the pushes that were not popped, the latest first
  pub saved : List (List (List ℤ))
  -- the box at the latest settling, where there was one: now, and at each of those pushes
  pub settled : List (Option (List (List ℤ)))
  -- a mark for each variable whose domain changed since the marks were taken away
  pub touched : List Bool
  -- how often a narrowing changed a domain
  pub changes : ℕ

-- the box at the latest settling
abbrev pub latest : List (Option (List (List ℤ))) → Option (List (List ℤ))
latest [] = None
latest (o ∷ os) = o

-- how many values all domains have together
unfoldable pub box_size : List (List ℤ) → ℕ
box_size box = sum_by length box

-- a box of a level: as many domains as the store has, each as it is in every box
pub record IsStoreBox (count : ℕ) (box : List (List ℤ)) : Type 0 where
  pub domains : IsBox box
  pub same : length box ≡ count

-- a box has only values of an earlier one
pub record IsInside (earlier later : List (List ℤ)) : Type 0 where
  pub count : length later ≡ length earlier
  pub within : (k : ℕ) (z : ℤ) → Contains (domain_at later k) z → Contains (domain_at earlier k) z

-- each box lies inside that of its latest settling
unfoldable pub AreInside : List (Option (List (List ℤ))) → List (List (List ℤ)) → Type 0
AreInside [] [] = ⊤
AreInside [] (b ∷ bs) = ⊥
AreInside (o ∷ os) [] = ⊥
AreInside (o ∷ os) (b ∷ bs) = IfSome o (λ a. IsInside a b) × AreInside os bs

-- what the type keeps
pub record IsStore (s : Stored) : Type 0 where
  pub few : length s.box ≤ 100000
  pub box : IsBox s.box
  pub saved : All (IsStoreBox (length s.box)) s.saved
  pub settled : AreInside s.settled (s.box ∷ s.saved)
  pub touched : length s.touched ≡ length s.box

-- a count one higher; it stays at the greatest u64
abbrev pub counted : ℕ → ℕ
counted n = min (n + 1) (2 ^ 64 - 1)

-- some domain is empty
abbrev pub HasEmpty : List (List (ℤ × ℤ)) → Type 0
HasEmpty doms = Any (λ d. d ≡ []) doms
