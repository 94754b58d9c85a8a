-- A mending as numbers, four for each of its changes; whether a row's numbers are changes, and which.
use Rattle.std.specs.Prelude.{Bool, true, false, List, [], ◌∷◌, ℕ, ◌+◌, leb, ℤ, pos, negsuc, nat_abs, length, get_or, Result, Ok, Err}
use Rattle.meaning.specs.Answers.{Answer, accepted, refused}
use Rattle.meaning.specs.Bytes.{when, both}
use Rattle.meaning.specs.Mending.{change, change_numbers, undo}
use Rattle.meaning.specs.declared.Change.{Change}
use Rattle.meaning.specs.Results.{Undone}
use Rattle.meaning.specs.declared.Mended.{Mended}
use Rattle.meaning.specs.declared.NotUndone.TheVariants.{Misfit, Refused}
use Rattle.meaning.specs.declared.Refusal.{Refusal}
use Rattle.rows.specs.Rows.{in_row}

-- a mending in a row of two numbers: the length of the mended pattern, and how many changes
abbrev pub mended_counts : Result Mended Refusal → Answer
mended_counts (Ok r) = accepted (pos r.length ∷ pos r.changes.used ∷ [])
mended_counts (Err why) = refused why

-- its changes in a row of 512: four numbers for each of 128 entries, zeros where there is no change; or none
abbrev pub mend_numbers : Result Mended Refusal → List ℤ
mend_numbers (Ok r) = change_numbers r.changes.listed
mend_numbers (Err why) = []

-- whether four numbers are a change: none is negative, and the byte is one
abbrev pub is_count : ℤ → Bool
is_count (pos n) = true
is_count (negsuc n) = false

abbrev pub is_byte : ℤ → Bool
is_byte (pos n) = leb n 255
is_byte (negsuc n) = false

abbrev pub is_change : ℤ → ℤ → ℤ → ℤ → Bool
is_change place byte before after = both (is_count place) (both (is_byte byte) (both (is_count before) (is_count after)))

unfoldable pub are_changes : List ℤ → Bool
are_changes [] = true
are_changes (place ∷ []) = false
are_changes (place ∷ byte ∷ []) = false
are_changes (place ∷ byte ∷ before ∷ []) = false
are_changes (place ∷ byte ∷ before ∷ after ∷ zs) = both (is_change place byte before after) (are_changes zs)

-- whether the numbers of a row are changes, as a mending lays them, and those changes
abbrev pub holds_changes : List ℤ → Bool
holds_changes zs = both (leb (length zs) 512) (are_changes zs)

unfoldable pub changes_held : List ℤ → List Change
changes_held [] = []
changes_held (place ∷ []) = []
changes_held (place ∷ byte ∷ []) = []
changes_held (place ∷ byte ∷ before ∷ []) = []
changes_held (place ∷ byte ∷ before ∷ after ∷ zs) = change (nat_abs place) (nat_abs byte) (nat_abs before) (nat_abs after) ∷ changes_held zs

-- the four numbers at a place of a row

abbrev pub entry_at : List ℤ → ℕ → ℤ
entry_at zs at = get_or zs at (pos 0)

abbrev pub is_change_at : List ℤ → ℕ → Bool
is_change_at zs at = is_change (entry_at zs at) (entry_at zs (at + 1)) (entry_at zs (at + 2)) (entry_at zs (at + 3))

abbrev pub change_at : List ℤ → ℕ → Change
change_at zs at =
    change (nat_abs (entry_at zs at)) (nat_abs (entry_at zs (at + 1))) (nat_abs (entry_at zs (at + 2))) (nat_abs (entry_at zs (at + 3)))

-- an undoing of the changes of a row; and in a row of two numbers, where a misfit is 104 and no number
abbrev pub undone_by : List ℕ → List ℤ → List ℕ → Undone
undone_by p zs out = when (holds_changes zs) (undo p (changes_held zs) out) (Err Misfit)

abbrev pub in_undone : Undone → Answer
in_undone (Ok n) = in_row 2 (accepted (pos n ∷ []))
in_undone (Err Misfit) = record { number = 104; values = [] }
in_undone (Err (Refused why)) = in_row 2 (refused why)
