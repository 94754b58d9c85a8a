-- Request [12], mend this pattern: each part with its own change, and spaces behind those that a digit from the rest of the
-- pattern can still disturb, which is where the check's need is not met; the list of the changes; and the whole answer.
use Rattle.std.specs.Prelude.{List, [], ◌∷◌, ◌++◌, map, ◌≡◌, ℕ, zero, suc, ◌+◌, leb, ℤ, length, replicate, Result, Ok, Err}
use Rattle.meaning.specs.Answers.{◌else◌, refuse_unless, room_check}
use Rattle.meaning.specs.Bytes.{when}
use Rattle.meaning.specs.Mending.{space, part_bytes, mend_part, change, listed, own_change, changes_of, mended_answer}
use Rattle.meaning.specs.Promises.{SameAnswer}
use Rattle.meaning.specs.Splitting.{Content, join_byte, contents, length_of}
use Rattle.meaning.specs.Trust.{trust_check}
use Rattle.meaning.specs.Whole.{output_by}
use Rattle.meaning.specs.Writing.{Step, step_of}
use Rattle.meaning.specs.declared.Change.{Change}
use Rattle.meaning.specs.Results.{Checked}
use Rattle.meaning.specs.declared.Edition.{Edition}
use Rattle.meaning.specs.declared.Mended.{Mended}
use Rattle.meaning.specs.declared.Pair.TheVariants.{Full}
use Rattle.meaning.specs.declared.Refusal.{Refusal}
use Rattle.meaning.specs.declared.Refusal.TheVariants.{MendedTooLong}
use Rattle.trust.specs.Check.{meets}
use Rattle.trust.specs.Needs.{step_need}
use Rattle.trust.specs.declared.Need.{Need}
use Rattle.trust.specs.declared.Need.TheVariants.{Nothing, NoDigit, NoSecondDigit, Broken, LosesYear}

-- "one space is put in, or two for five X or x"
abbrev pub spaces_for : Need → ℕ
spaces_for Nothing = 0
spaces_for NoDigit = 1
spaces_for NoSecondDigit = 2
spaces_for Broken = 0
spaces_for LosesYear = 0

-- how many spaces a need puts before these parts
abbrev pub spaces_before : Need → List Step → ℕ
spaces_before need behind = when (meets need behind) 0 (spaces_for need)

abbrev pub full_steps : List Content → List Step
full_steps cs = map (step_of Full) cs

-- how many stand between a part and those behind it, each with its own change
unfoldable pub gap : Edition → Content → List Content → ℕ
unfolding step_of step_need meets mend_part
gap edition c cs = spaces_before (step_need edition (step_of Full (mend_part edition c))) (full_steps (map (mend_part edition) cs))

-- the mended pattern of these parts
unfoldable pub mended_bytes : Edition → List Content → List ℕ
unfolding part_bytes gap
mended_bytes edition [] = []
mended_bytes edition (c ∷ cs) = part_bytes (mend_part edition c) ++ replicate (gap edition c cs) space ++ mended_bytes edition cs

unfoldable pub mended : Edition → List ℕ → List ℕ
unfolding mended_bytes contents
mended edition p = mended_bytes edition (contents p)

-- its changes, where the first part stands at a place
unfoldable pub changes_from : Edition → ℕ → List Content → List Change
unfolding own_change gap
changes_from edition at [] = []
changes_from edition at (c ∷ cs) =
    let behind = at + length_of (mend_part edition c) in
    let spaces = gap edition c cs in
    listed (own_change edition at c) ++ listed (change behind space 0 spaces) ++ changes_from edition (behind + spaces) cs

unfoldable pub changes : Edition → List ℕ → List Change
unfolding changes_from contents
changes edition p = changes_from edition 0 (contents p)

-- the parts of the mended pattern: spaces that are put in join a run of spaces behind them, as all equal bytes do

unfoldable pub join_spaces : ℕ → List Content → List Content
join_spaces zero cs = cs
join_spaces (suc n) cs = join_byte space (join_spaces n cs)

unfoldable pub mended_parts : Edition → List Content → List Content
unfolding join_spaces gap
mended_parts edition [] = []
mended_parts edition (c ∷ cs) = mend_part edition c ∷ join_spaces (gap edition c cs) (mended_parts edition cs)

-- "as the check, then 30 mended pattern over 256 bytes, then 5; nothing is written"
unfoldable pub mend_check : Edition → List ℕ → ℤ → ℕ → Checked
unfolding trust_check mended
mend_check edition p current room =
    trust_check edition p current else
    refuse_unless (leb (length (mended edition p)) 256) MendedTooLong else
    room_check room (length (mended edition p))

abbrev pub mended_by : Checked → List ℕ → List Change → Result Mended Refusal
mended_by (Ok _) t cs = Ok (record { length = length t; changes = changes_of cs })
mended_by (Err why) t cs = Err why

-- the answer, and the lent output afterwards

unfoldable pub mend : Edition → List ℕ → ℤ → List ℕ → Result Mended Refusal
unfolding mend_check changes
mend edition p current out = mended_by (mend_check edition p current (length out)) (mended edition p) (changes edition p)

unfoldable pub mend_output : Edition → List ℕ → ℤ → List ℕ → List ℕ
unfolding mend_check
mend_output edition p current out = output_by (mend_check edition p current (length out)) (mended edition p) out

-- what a mending promises of its answer r, and of the output afterwards
abbrev pub Mends : Edition → List ℕ → ℤ → List ℕ → Result Mended Refusal → List ℕ → Type 0
Mends edition p current out r after = SameAnswer mended_answer r (mend edition p current out) × (after ≡ mend_output edition p current out)
