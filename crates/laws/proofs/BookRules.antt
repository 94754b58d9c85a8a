-- What the rules of a book give of each of its lists: every name has the letters that it may have, and where no name may begin
-- another, none does.
use Rattle.std.specs.Prelude.{Ok}
use mathlib.Core.Bool.{Bool, true}
use mathlib.Core.List.{List, [], ◌∷◌, ◌++◌, map}
use mathlib.Core.Option.{Option, none, some}
use mathlib.Core.Path.{◌≡◌, refl, sym, ap}
use Prim.Native.Nat.{ℕ, zero, suc, ◌+◌, ◌≤◌}
use native.Mathlib.Omega.{arith}
use lib.Dec.{eqb}
use lib.ListN.{length, get_or, drop}
use lib.Seq.{drop-append_seam}
use Rattle.meaning.specs.Answers.{refuse_unless, within}
use Rattle.meaning.specs.Books as books
use Rattle.meaning.specs.Bytes.{when, both}
use Rattle.meaning.specs.Names.{Book, english, names}
use Rattle.meaning.specs.Readers.{begins}
use Rattle.meaning.specs.declared.NameList.{NameList}
use Rattle.meaning.specs.declared.NameList.TheVariants.{EraAbbreviated, EraNarrow, EraWide, QuarterWide, MonthAbbreviated, MonthWide, MonthNarrow, WdayAbbreviated, WdayWide, WdayNarrow, WdayShort, PeriodUpper, PeriodLower, PeriodDotted, PeriodLetter, NoonUpper, NoonLower, NoonDotted, NoonLetter}
use Rattle.meaning.specs.declared.Refusal.TheVariants.{BookName}
use borrow.Author.Tests.{eq-eqb, eqb-true}
use Rattle.laws.specs.Shelves.{shelf_of}
use Rattle.laws.proofs.Checks.{else-fine, fine-unless}
use Rattle.laws.proofs.Names.{apart, all_apart}
use Rattle.laws.proofs.Tests.{both_true, both-are, by-test, every, every-weaker, true-is-not-false}

-- names of which neither begins the other are apart
pub begins-apart : (a b : List ℕ) → books.apart a b ≡ true → apart a b ≡ true
unfolding begins apart
begins-apart [] b h = true-is-not-false (sym h)
begins-apart (i ∷ a) [] h = true-is-not-false (sym h)
begins-apart (i ∷ a) (j ∷ b) h =
    by-test (eqb i j)
    (λ e.
    let d : eqb j i ≡ true = eq-eqb j i (sym (eqb-true i j e)) in
    rw e (begins-apart a b (rw (e, d) at h)))
    (λ e. rw e)

-- a name by itself
abbrev pub fits : books.Shelf → List ℕ → Bool
fits s name = both (within s.least s.most (length name)) (books.all_letters name)

-- what the check of a list finds good, of names that stand behind earlier ones
pub record Good (s : books.Shelf) (earlier ns : List (List ℕ)) : Type 0 where
  pub fit : every (fits s) ns ≡ true
  pub apart-each : s.apart ≡ true → all_apart ns ≡ true
  pub apart-earlier : s.apart ≡ true → every (books.apart_from earlier) ns ≡ true

good-names : (s : books.Shelf) (k i : ℕ) (earlier ns : List (List ℕ)) → length ns ≡ k → books.shelf_check s k i earlier ns ≡ Ok tt → Good s earlier ns
unfolding books.shelf_check books.is_good books.apart_from every all_apart
good-names s zero i earlier [] e h = record { fit = refl; apart-each = λ _. refl; apart-earlier = λ _. refl }
good-names s zero i earlier (name ∷ ns) e h = absurd (omega arith)
good-names s (suc k) i earlier [] e h = absurd (omega arith)
good-names s (suc k) i earlier (name ∷ ns) e h =
    let t = else-fine (refuse_unless (books.is_good s earlier name) (BookName i)) (books.shelf_check s k (suc i) (name ∷ earlier) ns) h in
    let good = fine-unless (books.is_good s earlier name) (BookName i) t.0 in
    let a = both_true (within s.least s.most (length name)) (both (books.all_letters name) (when s.apart (books.apart_from earlier name) true)) good in
    let b = both_true (books.all_letters name) (when s.apart (books.apart_from earlier name) true) a.1 in
    let rest = good-names s k (suc i) (name ∷ earlier) ns (omega arith) t.1 in
    record {
      fit = both-are (fits s name) (every (fits s) ns) (both-are (within s.least s.most (length name)) (books.all_letters name) a.0 b.0) rest.fit;
      apart-each = λ kept.
          both-are (every (apart name) ns) (all_apart ns)
          (every-weaker (books.apart_from (name ∷ earlier)) (apart name)
          (λ other u. begins-apart name other (both_true (books.apart name other) (books.apart_from earlier other) u).0) ns (rest.apart-earlier kept))
          (rest.apart-each kept);
      apart-earlier = λ kept.
          both-are (books.apart_from earlier name) (every (books.apart_from earlier) ns) (rw kept at b.1)
          (every-weaker (books.apart_from (name ∷ earlier)) (books.apart_from earlier)
          (λ other u. (both_true (books.apart name other) (books.apart_from earlier other) u).1) ns (rest.apart-earlier kept));
    }

-- all lists of a book

-- the check of a list looks at its own names alone
shelf-alone : (s : books.Shelf) (k i : ℕ) (earlier l r : List (List ℕ)) → length l ≡ k → books.shelf_check s k i earlier (l ++ r) ≡ books.shelf_check s k i earlier l
unfolding books.shelf_check
shelf-alone s zero i earlier [] r e = refl
shelf-alone s zero i earlier (name ∷ l) r e = absurd (omega arith)
shelf-alone s (suc k) i earlier [] r e = absurd (omega arith)
shelf-alone s (suc k) i earlier (name ∷ l) r e = rw (shelf-alone s k (suc i) (name ∷ earlier) l r (omega arith))

-- each list is good for its shelf
abbrev pub Goods : List books.Shelf → List (List (List ℕ)) → Type 0
Goods [] ls = Unit
Goods (s ∷ ss) [] = Unit
Goods (s ∷ ss) (l ∷ ls) = Good s [] l × Goods ss ls

goods : (ss : List books.Shelf) (i : ℕ) (ls : List (List (List ℕ))) → map length ls ≡ map (λ s. s.count) ss → books.names_check ss i (books.joined ls) ≡ Ok tt
    → Goods ss ls
unfolding books.names_check books.joined
goods [] i ls e h = tt
goods (s ∷ ss) i [] e h = tt
goods (s ∷ ss) i (l ∷ ls) e h =
    let size : length l ≡ s.count = cc in
    let sizes : map length ls ≡ map (λ s. s.count) ss = cc in
    let r = books.joined ls in
    let t = else-fine (books.shelf_check s s.count i [] (l ++ r)) (books.names_check ss (i + s.count) (drop s.count (l ++ r))) h in
    let behind : drop s.count (l ++ r) ≡ r = rw (← size) (drop-append_seam l r) in
    let own : books.shelf_check s s.count i [] l ≡ Ok tt = rw (shelf-alone s s.count i [] l r size) at t.0 in
    (good-names s s.count i [] l size own, goods ss (i + s.count) ls sizes (rw behind at t.1))

pub good-lists : (b : Book) → books.Valid b → Goods books.shelves (books.lists_of b)
good-lists b v = goods books.shelves 1 (books.lists_of b) v.counts v.good

-- what a list has: it is the same in every book, or it is good for its shelf, and has as many names
abbrev pub Listed : Book → NameList → Option books.Shelf → Type 0
Listed b l none = names b l ≡ names english l
Listed b l (some s) = Good s [] (names b l) × (length (names b l) ≡ s.count) × (1 ≤ s.least)

module _ (b : Book) (v : books.Valid b) where
  count_at : (i : ℕ) → get_or (map length (books.lists_of b)) i 0 ≡ get_or (map (λ s. s.count) books.shelves) i 0
  count_at i = ap (λ (ns : List ℕ). get_or ns i 0) v.counts

  pub listed : (l : NameList) → Listed b l (shelf_of l)
  unfolding names
  listed EraAbbreviated = refl
  listed EraNarrow = refl
  listed EraWide = refl
  listed QuarterWide = refl
  listed MonthAbbreviated = ((good-lists b v).1.0, count_at 1, omega arith)
  listed MonthWide = ((good-lists b v).0, count_at 0, omega arith)
  listed MonthNarrow = ((good-lists b v).1.1.1.1.1.1.0, count_at 6, omega arith)
  listed WdayAbbreviated = ((good-lists b v).1.1.1.0, count_at 3, omega arith)
  listed WdayWide = ((good-lists b v).1.1.0, count_at 2, omega arith)
  listed WdayNarrow = ((good-lists b v).1.1.1.1.1.0, count_at 5, omega arith)
  listed WdayShort = ((good-lists b v).1.1.1.1.0, count_at 4, omega arith)
  listed PeriodUpper = refl
  listed PeriodLower = refl
  listed PeriodDotted = refl
  listed PeriodLetter = refl
  listed NoonUpper = refl
  listed NoonLower = refl
  listed NoonDotted = refl
  listed NoonLetter = refl

  -- A test of names that English passes, and every name that fits the list's shelf, is passed by the book.
  pub every-name : (test : List ℕ → Bool) (l : NameList) → every test (names english l) ≡ true
      → ((s : books.Shelf) → 1 ≤ s.least → (name : List ℕ) → fits s name ≡ true → test name ≡ true) → every test (names b l) ≡ true
  every-name test l h k = go (shelf_of l) (listed l)
    where
      go : (o : Option books.Shelf) → Listed b l o → every test (names b l) ≡ true
      go none same = rw same h
      go (some s) good = every-weaker (fits s) test (k s good.2) (names b l) good.0.fit
