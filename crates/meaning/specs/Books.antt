-- Request [8]: a name book. It opens with the mark LNB and a version of 16 bits, high byte first; then stand its 64 names, each
-- behind a byte that is its length. Version 2 may have bytes behind the names.
use Rattle.std.specs.Prelude.{Bool, true, false, not, List, [], ◌∷◌, ◌++◌, map, ◌≡◌, ℕ, zero, suc, ◌+◌, ◌*◌, eqb, leb, length, get_or, take, drop, Ok, Err}
use Prim.Native.Char.{code}
use Rattle.meaning.specs.Answers.{◌else◌, refuse_unless, within}
use Rattle.meaning.specs.Bytes.{when, both, bytes}
use Rattle.meaning.specs.Names.{Book}
use Rattle.meaning.specs.Readers.{begins}
use Rattle.meaning.specs.Results.{Checked}
use Rattle.meaning.specs.declared.Refusal.TheVariants.{BookMark, BookVersion, BookCut, BookName}

-- a list of a book: how many names, how many letters each has, and whether no name may begin another
pub record Shelf : Type 0 where
  pub count : ℕ
  pub least : ℕ
  pub most : ℕ
  pub apart : Bool

abbrev pub shelf : ℕ → ℕ → ℕ → Bool → Shelf
shelf count least most apart = record { count = count; least = least; most = most; apart = apart }

-- in book order: wide and short months; wide, short, two-letter and narrow weekdays; narrow months
abbrev pub shelves : List Shelf
shelves =
    shelf 12 2 20 true ∷ shelf 12 2 20 true ∷ shelf 7 2 20 true ∷ shelf 7 3 3 false ∷ shelf 7 2 2 false ∷ shelf 7 1 1 false
    ∷ shelf 12 1 1 false ∷ []

-- the names in book order, as the lists of a book
abbrev pub book_of : List (List ℕ) → Book
book_of ns =
    record {
      month_wide = take 12 ns;
      month_abbreviated = take 12 (drop 12 ns);
      wday_wide = take 7 (drop 24 ns);
      wday_abbreviated = take 7 (drop 31 ns);
      wday_short = take 7 (drop 38 ns);
      wday_narrow = take 7 (drop 45 ns);
      month_narrow = take 12 (drop 52 ns);
    }

-- and the other way
abbrev pub lists_of : Book → List (List (List ℕ))
lists_of b =
    b.month_wide ∷ b.month_abbreviated ∷ b.wday_wide ∷ b.wday_abbreviated ∷ b.wday_short ∷ b.wday_narrow ∷ b.month_narrow ∷ []

unfoldable pub joined : List (List (List ℕ)) → List (List ℕ)
joined [] = []
joined (l ∷ ls) = l ++ joined ls

abbrev pub names_of : Book → List (List ℕ)
names_of b = joined (lists_of b)

-- the rules of a name

abbrev pub is_letter : ℕ → Bool
is_letter b = when (within (code "A") (code "Z") b) true (within (code "a") (code "z") b)

unfoldable pub all_letters : List ℕ → Bool
all_letters [] = true
all_letters (b ∷ s) = both (is_letter b) (all_letters s)

-- neither begins the other; equal names begin each other
abbrev pub apart : List ℕ → List ℕ → Bool
apart a b = not (when (begins a b) true (begins b a))

unfoldable pub apart_from : List (List ℕ) → List ℕ → Bool
unfolding begins
apart_from [] name = true
apart_from (earlier ∷ others) name = both (apart earlier name) (apart_from others name)

-- by itself, and against the earlier ones of its list
unfoldable pub is_good : Shelf → List (List ℕ) → List ℕ → Bool
unfolding all_letters apart_from
is_good s earlier name =
    both (within s.least s.most (length name)) (both (all_letters name) (when s.apart (apart_from earlier name) true))

-- the first bad name of so many that are left of a list, counted on from i; else on to what follows
unfoldable pub shelf_check : Shelf → ℕ → ℕ → List (List ℕ) → List (List ℕ) → Checked
unfolding is_good
shelf_check s zero i earlier ns = Ok tt
shelf_check s (suc k) i earlier [] = Ok tt
shelf_check s (suc k) i earlier (name ∷ ns) = refuse_unless (is_good s earlier name) (BookName i) else shelf_check s k (suc i) (name ∷ earlier) ns

-- 23
unfoldable pub names_check : List Shelf → ℕ → List (List ℕ) → Checked
unfolding shelf_check
names_check [] i ns = Ok tt
names_check (s ∷ ss) i ns = shelf_check s s.count i [] ns else names_check ss (i + s.count) (drop s.count ns)

-- a book: as many names in each list as there must be, and none of them bad
pub record Valid (b : Book) : Type 0 where
  pub counts : map length (lists_of b) ≡ map (λ s. s.count) shelves
  pub good : names_check shelves 1 (names_of b) ≡ Ok tt

-- so many names, each behind its length, and the bytes that are left; none where these are too few
pub data Shelved : Type 0 where
  cut : Shelved
  shelved : List (List ℕ) → List ℕ → Shelved

abbrev pub behind_name : List ℕ → Shelved → Shelved
behind_name name cut = cut
behind_name name (shelved ns rest) = shelved (name ∷ ns) rest

unfoldable pub names_in : ℕ → List ℕ → Shelved
names_in zero s = shelved [] s
names_in (suc k) [] = cut
names_in (suc k) (n ∷ s) = when (leb n (length s)) (behind_name (take n s) (names_in k (drop n s))) cut

-- reading: 20, 22 where there is no version, 21, 22, 23

abbrev pub mark : List ℕ
mark = bytes "LNB"

abbrev pub version_of : List ℕ → ℕ
version_of s = get_or s 3 0 * 256 + get_or s 4 0

abbrev pub is_mark : List ℕ → Bool
is_mark s = both (leb 3 (length s)) (begins mark s)

abbrev pub is_version : ℕ → Bool
is_version v = when (eqb v 1) true (eqb v 2)

-- whether bytes may be left
abbrev pub may_go_on : ℕ → Bool
may_go_on v = eqb v 2

abbrev pub shelved_check : ℕ → Shelved → Checked
shelved_check v cut = Err BookCut
shelved_check v (shelved ns rest) = refuse_unless (when (may_go_on v) true (eqb (length rest) 0)) BookCut else names_check shelves 1 ns

unfoldable pub book_check : List ℕ → Checked
unfolding bytes begins names_in names_check
book_check s =
    refuse_unless (is_mark s) BookMark else
    refuse_unless (leb 5 (length s)) BookCut else
    refuse_unless (is_version (version_of s)) BookVersion else
    shelved_check (version_of s) (names_in 64 (drop 5 s))

-- writing: the bytes of version 1

unfoldable pub shelve_names : List (List ℕ) → List ℕ
shelve_names [] = []
shelve_names (name ∷ ns) = length name ∷ name ++ shelve_names ns

unfoldable pub book_bytes : List (List ℕ) → List ℕ
unfolding bytes shelve_names
book_bytes ns = mark ++ 0 ∷ 1 ∷ shelve_names ns
