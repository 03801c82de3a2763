-- Lists that rise have no number twice, and the pigeonhole principle, by members.
use Rattle.std.proofs.Common.{◌≡◌, ◌≤◌, List, [], ◌∷◌, length, arith}
use Rattle.std.specs.Prelude.{ℤ, ◌<ℤ◌, Contains}
use Rattle.std.specs.List.{IsDistinct}
use Rattle.std.specs.Ordering.{int_eq}
use Rattle.std.proofs.lemmas.Int.{ints}
use Rattle.fzn_model.proofs.Pigeons as numbers
use Rattle.fzn_model.proofs.Pigeons.{distinct_none, distinct_more}
use Rattle.int_domain.proofs.Members.{Has, Rises, all_has, contains_from_has, has_from_contains}

-- a number that a list doesn't have differs from all of it
pub has_more : (x : ℤ) (xs : List ℤ) → (Has x xs → ⊥) → IsDistinct int_eq xs → IsDistinct int_eq (x ∷ xs)
has_more x xs new = distinct_more x xs (λ h. new (has_from_contains xs x h))

pub rises_apart : (xs : List ℤ) → Rises xs → IsDistinct int_eq xs
rises_apart [] rises = distinct_none
rises_apart (x ∷ xs) rises = has_more x xs (λ h. let less : x <ℤ x = all_has (λ y. x <ℤ y) xs x rises.0 h in absurd (omega (arith, ints))) (rises_apart xs rises.1)

within_all : (xs ys : List ℤ) → ((v : ℤ) → Has v xs → Has v ys) → (v : ℤ) → Contains xs v → Contains ys v
within_all xs ys within v h = contains_from_has ys v (within v (has_from_contains xs v h))

pub pigeons : (xs ys : List ℤ) → IsDistinct int_eq xs → ((v : ℤ) → Has v xs → Has v ys) → length xs ≤ length ys
pigeons xs ys distinct within = numbers.pigeons xs ys distinct (within_all xs ys within)

pub pigeons_fill : (xs ys : List ℤ) (v : ℤ) → IsDistinct int_eq xs → ((w : ℤ) → Has w xs → Has w ys) → length ys ≤ length xs → Has v ys → (Has v xs → ⊥) → ⊥
pigeons_fill xs ys v distinct within many has new = numbers.pigeons_fill xs ys v distinct (within_all xs ys within) many (contains_from_has ys v has) (λ h. new (has_from_contains xs v h))

-- two such lists with the same members are of the same length
pub same_length : (xs ys : List ℤ) → IsDistinct int_eq xs → IsDistinct int_eq ys → ((v : ℤ) → Has v xs → Has v ys) → ((v : ℤ) → Has v ys → Has v xs) → length xs ≡ length ys
same_length xs ys p q there back =
    let one = pigeons xs ys p there in
    let other = pigeons ys xs q back in
    omega (arith, one, other)
