-- Request [12], mend this pattern: the bytes of a part, what a part becomes by itself, each change as a line of a list, and how
-- listed changes are undone. Behind which parts spaces are put is a matter of the check, in `trust`'s Mending.
use Rattle.std.specs.Prelude.{Bool, true, List, [], ◌∷◌, ◌++◌, ℕ, ◌+◌, ◌-◌, ◌*◌, eqb, leb, ℤ, pos, length, take, drop, replicate, Result, Ok, Err}
use Prim.Native.Char.{code}
use Rattle.meaning.specs.Answers.{Answer, accepted, refused, within, room_check}
use Rattle.meaning.specs.Bytes.{when, both, quote}
use Rattle.meaning.specs.Readers.{begins}
use Rattle.meaning.specs.Splitting.{Content, run, quotes, quoted, unclosed, length_of}
use Rattle.meaning.specs.Whole.{output_by}
use Rattle.meaning.specs.Writing.{ends_in_quote}
use Rattle.meaning.specs.declared.Change.{Change}
use Rattle.meaning.specs.declared.Changes.{Changes}
use Rattle.meaning.specs.Results.{Checked, Undone}
use Rattle.meaning.specs.declared.Edition.{Edition}
use Rattle.meaning.specs.declared.Edition.TheVariants.{First, Second}
use Rattle.meaning.specs.declared.Mended.{Mended}
use Rattle.meaning.specs.declared.NotUndone.TheVariants.{Misfit, Refused}
use Rattle.meaning.specs.declared.Refusal.{Refusal}

abbrev pub space : ℕ
space = code " "

-- the bytes of a part: inside quotes, an escaped quote for each quote

unfoldable pub escaped_bytes : List ℕ → List ℕ
escaped_bytes [] = []
escaped_bytes (b ∷ s) = when (eqb b quote) (quote ∷ quote ∷ escaped_bytes s) (b ∷ escaped_bytes s)

unfoldable pub part_bytes : Content → List ℕ
unfolding escaped_bytes
part_bytes (run b n) = replicate n b
part_bytes (quotes n) = replicate (2 * n) quote
part_bytes (quoted s) = quote ∷ escaped_bytes s ++ quote ∷ []
part_bytes (unclosed s) = quote ∷ escaped_bytes s

-- "In edition 1 single M becomes MM."
abbrev pub month_count : Edition → ℕ → ℕ
month_count First n = when (eqb n 1) 2 n
month_count Second n = n

-- "yy becomes yyyy, five or six y become seven"
abbrev pub year_count : ℕ → ℕ
year_count n = when (eqb n 2) 4 (when (within 5 6 n) 7 n)

-- how often a byte stands that stood n times
unfoldable pub mended_count : Edition → ℕ → ℕ → ℕ
mended_count edition b n = when (eqb b (code "M")) (month_count edition n) (when (eqb b (code "y")) (year_count n) n)

-- "an unclosed quote that ends in an escaped quote is closed"
unfoldable pub mend_part : Edition → Content → Content
unfolding mended_count ends_in_quote
mend_part edition (run b n) = run b (mended_count edition b n)
mend_part edition (quotes n) = quotes n
mend_part edition (quoted s) = quoted s
mend_part edition (unclosed s) = when (ends_in_quote s) quoted unclosed s

-- a line of the list: at a place of the mended pattern, a byte, how often it stood there, and how often it stands there now
abbrev pub change : ℕ → ℕ → ℕ → ℕ → Change
change place byte before after = record { place = place; byte = byte; before = before; after = after }

-- as often as before is no change
abbrev pub listed : Change → List Change
listed c = when (eqb c.before c.after) [] (c ∷ [])

-- the change of a part that stands at a place: of a run itself, else of the quotes at its end
unfoldable pub own_change : Edition → ℕ → Content → Change
unfolding mended_count ends_in_quote length_of
own_change edition at (run b n) = change at b n (mended_count edition b n)
own_change edition at (quotes n) = change (at + length_of (quotes n)) quote 0 0
own_change edition at (quoted s) = change (at + length_of (quoted s)) quote 0 0
own_change edition at (unclosed s) = change (at + length_of (unclosed s)) quote 0 (when (ends_in_quote s) 1 0)

-- what an entry of a list holds that no change uses
abbrev pub no_change : Change
no_change = change 0 0 0 0

abbrev pub changes_of : List Change → Changes
changes_of cs = record { listed = cs ++ replicate (128 - length cs) no_change; used = length cs }

abbrev pub changes_in : Changes → List Change
changes_in c = take c.used c.listed

-- four numbers for each change
unfoldable pub change_numbers : List Change → List ℤ
change_numbers [] = []
change_numbers (c ∷ cs) = pos c.place ∷ pos c.byte ∷ pos c.before ∷ pos c.after ∷ change_numbers cs

-- the length of the mended pattern, how many changes, and each
abbrev pub mended_answer : Result Mended Refusal → Answer
mended_answer (Ok r) = accepted (pos r.length ∷ pos r.changes.used ∷ change_numbers (changes_in r.changes))
mended_answer (Err why) = refused why

-- Undoing. A change fits a pattern, of which the bytes before a place are done with, where it stands behind them; it only adds.
unfoldable pub fits : List ℕ → ℕ → Change → Bool
unfolding begins
fits p at c =
    both (within at (length p) c.place)
    (both (leb c.before c.after) (begins (replicate c.after c.byte) (drop c.place p)))

unfoldable pub all_fit : List ℕ → ℕ → List Change → Bool
unfolding fits
all_fit p at [] = true
all_fit p at (c ∷ cs) = both (fits p at c) (all_fit p (c.place + c.after) cs)

-- the pattern from a place on with these changes undone: up to the next one as it stands, then what stood there before
unfoldable pub undone_from : List ℕ → ℕ → List Change → List ℕ
undone_from p at [] = drop at p
undone_from p at (c ∷ cs) =
    take (c.place - at) (drop at p) ++ replicate c.before c.byte ++ undone_from p (c.place + c.after) cs

-- the answer, 5 where the output is too small, and the lent output afterwards

abbrev pub undone_by : Checked → List ℕ → Undone
undone_by (Ok _) t = Ok (length t)
undone_by (Err why) t = Err (Refused why)

unfoldable pub undo : List ℕ → List Change → List ℕ → Undone
unfolding all_fit undone_from
undo p cs out =
    when (all_fit p 0 cs) (undone_by (room_check (length out) (length (undone_from p 0 cs))) (undone_from p 0 cs)) (Err Misfit)

unfoldable pub undo_output : List ℕ → List Change → List ℕ → List ℕ
unfolding all_fit undone_from
undo_output p cs out =
    when (all_fit p 0 cs) (output_by (room_check (length out) (length (undone_from p 0 cs))) (undone_from p 0 cs) out) out
