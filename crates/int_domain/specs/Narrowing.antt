-- What narrowing a domain answers and leaves: this project's own.
use Rattle.std.specs.Prelude.{◌≡◌, ◌≢◌, Bool, ◌&&◌, not, List, [], ℤ, int_lt, filter, MatchBool}
use Rattle.std.specs.Ordering.{int_eq}
use Rattle.int_domain.specs.declared.narrow.Narrow.{Narrow}
use Rattle.int_domain.specs.declared.narrow.Narrow.TheVariants.{Same, Changed, Empty}
use Rattle.int_domain.specs.Values.{is_wide, low_of, high_of}

-- exactly the values that pass the test stay. Same: all pass. Changed: not all, and those that do are left. Empty: none, and the domain is unchanged
unfoldable pub Narrows : (ℤ → Bool) → List ℤ → List ℤ → Narrow → Type 0
Narrows keep old new Same = (filter keep old ≡ old) × (new ≡ old)
Narrows keep old new Changed = (new ≡ filter keep old) × (new ≢ old)
Narrows keep old new Empty = (filter keep old ≡ []) × (new ≡ old)

-- whether a value lies strictly between the bounds of a wide domain, which has no gaps and so keeps it
unfoldable pub is_held : ℤ → List ℤ → Bool
is_held value old = is_wide old && (int_lt (low_of old) value && int_lt value (high_of old))

-- one value is dropped, but where it is held the domain stays as it is
unfoldable pub DropsValue : ℤ → List ℤ → List ℤ → Narrow → Type 0
DropsValue value old new answer =
    MatchBool (is_held value old) ((answer ≡ Same) × (new ≡ old)) (Narrows (λ x. not (int_eq x value)) old new answer)
