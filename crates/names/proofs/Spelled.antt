-- The lists that are spelled: one computed table for each, lifted to its entries.
use mathlib.Core.List.{List, [], ◌∷◌}
use mathlib.Core.Path.{◌≡◌, refl, sym, ap, ◌∙◌}
use Prim.Native.Nat.{ℕ, zero, suc, ◌+◌, ◌<◌}
use native.Mathlib.Omega.{arith}
use lib.ListN.{length, get_or, take}
use Rattle.meaning.specs.Bytes.{bytes}
use Rattle.meaning.specs.Names.{names, english}
use Rattle.meaning.specs.declared.NameList.{NameList}
use Rattle.meaning.specs.declared.NameList.TheVariants.{MonthAbbreviated, MonthWide, WdayWide}
use Rattle.names.specs.Letters.{name_numbered, IsSpelled}

-- so many names from a number on, cut to the most letters
unfoldable named : ℕ → ℕ → ℕ → List (List ℕ)
named zero from most = []
named (suc n) from most = take most (name_numbered from) ∷ named n (suc from) most

named-at : (n from most i : ℕ) → i < n → get_or (named n from most) i [] ≡ take most (name_numbered (from + i))
unfolding named
named-at zero from most i h = absurd (omega arith)
named-at (suc n) from most zero h = ap (λ (k : ℕ). take most (name_numbered k)) (omega arith)
named-at (suc n) from most (suc i) h =
    named-at n (suc from) most i (omega arith) ∙ ap (λ (k : ℕ). take most (name_numbered k)) (omega arith)

are-spelled : (list : NameList) (from most : ℕ) → named (length (names english list)) from most ≡ names english list → IsSpelled list from most
are-spelled list from most e i h =
    sym (named-at (length (names english list)) from most i h) ∙ ap (λ (l : List (List ℕ)). get_or l i []) e

pub months-spelled : IsSpelled MonthWide 0 9
unfolding named names english bytes
months-spelled = are-spelled MonthWide 0 9 refl

pub short-months-spelled : IsSpelled MonthAbbreviated 0 3
unfolding named names english bytes
short-months-spelled = are-spelled MonthAbbreviated 0 3 refl

pub weekdays-spelled : IsSpelled WdayWide 12 9
unfolding named names english bytes
weekdays-spelled = are-spelled WdayWide 12 9 refl
