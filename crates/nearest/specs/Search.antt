-- What the code does: the search for the codeword near a word, on lists. Contracts of private functions cite it; whoever reads `Near` need not believe
-- anything here. A polynomial is a list of coefficients, lowest power first. A word's place n has n places behind it; the place's number is
-- `locator n`, 2 to the power 11 n. What is added to a word to make it the codeword is its error; the places where that is not 0 are the wrong ones.
use mathlib.Core.List.{List, [], ◌∷◌, ◌++◌, tail}
use Rattle.std.specs.Prelude.{ℕ, zero, suc, ◌-◌, ◌*◌, ◌<◌, get_or, set}
use Rattle.std.specs.Int.Bits.{bit_xor}
use Rattle.basics.specs.Lists.{zeros}
use Rattle.field.specs.Field.{times}
use Rattle.field.specs.Raised.{raised, inverse_of}
use Rattle.reed_solomon.specs.Roots.{locator, terms}
use Rattle.division.specs.Division.{plus, scale}

-- ---- the sums of a word: its values at the generator's roots, all 0 for a codeword

-- m values of a word, at 2 to the power 11 i, i from j on
unfoldable pub sums : ℕ → ℕ → List ℕ → List ℕ
sums zero j word = []
sums (suc m) j word = terms (11 * j) word ∷ sums m (suc j) word

-- the 16 sums
abbrev pub sums_of : List ℕ → List ℕ
sums_of word = sums 16 120 word

-- ---- the error locator: a polynomial that is 0 at the number of each wrong place

-- what sums make of a row: the sum of the products of two lists, place by place
unfoldable pub dot : List ℕ → List ℕ → ℕ
dot [] S = 0
dot (l ∷ L) [] = 0
dot (l ∷ L) (s ∷ S) = bit_xor (times l s) (dot L S)

-- x times a row and y times another
unfoldable pub mix : ℕ → List ℕ → ℕ → List ℕ → List ℕ
mix x row y other = plus (scale times x row) (scale times y other)

-- of a row that is carried along, of which the sums make x, and the next, of which they make y: what is kept, of which they make 0
unfoldable pub keep : ℕ → ℕ → List ℕ → List ℕ → List ℕ
keep zero y carried next = carried
keep (suc x) y carried next = mix (suc x) next y carried

-- and what is carried on
unfoldable pub carry : ℕ → List ℕ → List ℕ → List ℕ
carry zero carried next = next
carry (suc x) carried next = carried

-- a row is carried along all others, and is gone in the end
unfoldable pub pass : List ℕ → List ℕ → List (List ℕ) → List (List ℕ)
pass S carried [] = []
pass S carried (next ∷ rows) = keep (dot carried S) (dot next S) carried next ∷ pass S (carry (dot carried S) carried next) rows

-- the sums take one row away, and make 0 of all that are left
unfoldable pub cut : List ℕ → List (List ℕ) → List (List ℕ)
unfolding pass
cut S [] = []
cut S (row ∷ rows) = pass S row rows

-- so do the sums from the second on, and so on n times
unfoldable pub cut_all : ℕ → List ℕ → List (List ℕ) → List (List ℕ)
cut_all zero S rows = rows
cut_all (suc n) S rows = cut_all n (tail S) (cut S rows)

-- x^k, as a row with n coefficients behind it
abbrev pub unit : ℕ → ℕ → List ℕ
unit k n = zeros k ++ 1 ∷ zeros n

-- the n powers of x from x^k on, as rows of k + n coefficients
abbrev pub units : ℕ → ℕ → List (List ℕ)
units k zero = []
units k (suc n) = unit k n ∷ units (suc k) n

-- the first row
abbrev pub first : List (List ℕ) → List ℕ
first [] = []
first (row ∷ rows) = row

-- of nine rows the one that is left when eight lists of sums have taken one each
unfoldable pub error_locator : List ℕ → List ℕ
error_locator S = first (cut_all 8 S (units 0 9))

-- ---- the places where the locator is 0

-- the value of a polynomial at x
unfoldable pub value_at : ℕ → List ℕ → ℕ
value_at x [] = 0
value_at x (l ∷ L) = bit_xor l (times x (value_at x L))

-- the place n in front of others, where the value there is 0
abbrev pub pick : ℕ → ℕ → List ℕ → List ℕ
pick zero n others = n ∷ others
pick (suc value) n others = others

-- the places below n at whose numbers a polynomial is 0
unfoldable pub places : ℕ → List ℕ → List ℕ
places zero L = []
places (suc n) L = pick (value_at (locator n) L) n (places n L)

-- the numbers of places
abbrev pub locators : List ℕ → List ℕ
locators [] = []
locators (n ∷ P) = locator n ∷ locators P

-- places in falling order, all below n
abbrev pub Falling : ℕ → List ℕ → Type 0
Falling n [] = Unit {0}
Falling n (p ∷ P) = (p < n) × Falling p P

-- ---- the error at a place

-- the sums, one fewer, without the place that has the number y; each other place then counts times the difference of its number and y
unfoldable pub without : ℕ → List ℕ → List ℕ
without y [] = []
without y (s ∷ []) = []
without y (s ∷ t ∷ S) = bit_xor t (times y s) ∷ without y (t ∷ S)

-- the same without several places
unfoldable pub without_all : List ℕ → List ℕ → List ℕ
without_all [] S = S
without_all (y ∷ Y) S = without_all Y (without y S)

-- the product of the differences of a number and others
unfoldable pub factor : ℕ → List ℕ → ℕ
factor x [] = 1
factor x (y ∷ Y) = times (bit_xor x y) (factor x Y)

-- x by d, which is not 0
unfoldable pub over : ℕ → ℕ → ℕ
over x d = times x (inverse_of d)

-- the error at the place with the number x, given the numbers of all other places that may be wrong
unfoldable pub error_at : List ℕ → ℕ → List ℕ → ℕ
error_at S x others = over (get_or (without_all others S) 0 0) (times (factor x others) (raised x 120))

-- ---- the word as repaired

-- a word with its places `done` repaired, and now the next too
unfoldable pub fix_all : List ℕ → List ℕ → List ℕ → List ℕ → List ℕ
fix_all S done [] word = word
fix_all S done (n ∷ next) word =
    fix_all S (done ++ n ∷ []) next (set word (254 - n) (bit_xor (get_or word (254 - n) 0) (error_at S (locator n) (locators (done ++ next)))))

-- the word in which all places that may be wrong are repaired
unfoldable pub search_for : List ℕ → List ℕ
search_for word = fix_all (sums_of word) [] (places 255 (error_locator (sums_of word))) word
