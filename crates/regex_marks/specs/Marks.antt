-- Marks: one for each character position of the written-out expression, and one for each repeat without end, which says whether
-- its part may end here. `Rest x b ms w`: w is an end that the marks from b on await. Assumes nothing: these are definitions.
use Rattle.std.specs.Prelude.{◌≡◌, List, [], ◌⊎◌, ℕ, zero, suc, pred, ◌+◌, eqb, get_or}
use Rattle.regex_definition.specs.Words.{Join, Times, Most, upto, any, Told}
use Rattle.regex_definition.specs.Regexp.{Regexp, empty, class, then, or, times, Describes}

-- how many marks h copies of n have, and copies without end
abbrev pub copies : ℕ → ℕ → ℕ
copies n zero = 0
copies n (suc h) = n + copies n h

abbrev pub endless : ℕ → ℕ → ℕ
endless n zero = 1 + n
endless n (suc zero) = 1 + n
endless n (suc (suc l)) = n + endless n (suc l)

abbrev pub size_times : ℕ → ℕ → Most → ℕ
size_times n lo (upto h) = copies n h
size_times n lo any = endless n lo

abbrev pub size : Regexp → ℕ
size empty = 0
size (class k gs) = 1
size (then x y) = size x + size y
size (or x y) = size x + size y
size (times lo hi x) = size_times (size x) lo hi

-- the rests of the copies: P the words of one, A k the rests of the one whose marks begin at k
abbrev pub RestUpto : (List ℕ → Type 0) → (ℕ → List ℕ → Type 0) → ℕ → ℕ → ℕ → ℕ → List ℕ → Type 0
RestUpto P A n lo zero b w = ⊥
RestUpto P A n lo (suc h) b w = Join (A b) (Times (pred lo) (upto h) P) w ⊎ RestUpto P A n (pred lo) h (b + n) w

abbrev pub RestAny : (List ℕ → Type 0) → (ℕ → List ℕ → Type 0) → ℕ → ℕ → ℕ → List ℕ → Type 0
RestAny P A n zero b w = Join (A (b + 1)) (Times 0 any P) w
RestAny P A n (suc zero) b w = Join (A (b + 1)) (Times 0 any P) w
RestAny P A n (suc (suc l)) b w = Join (A b) (Times (suc l) any P) w ⊎ RestAny P A n (suc l) (b + n) w

abbrev pub RestTimes : (List ℕ → Type 0) → (ℕ → List ℕ → Type 0) → ℕ → ℕ → Most → ℕ → List ℕ → Type 0
RestTimes P A n lo (upto h) b w = RestUpto P A n lo h b w
RestTimes P A n lo any b w = RestAny P A n lo b w

abbrev pub Rest : Regexp → ℕ → List ℕ → List ℕ → Type 0
Rest empty b ms w = ⊥
Rest (class k gs) b ms w = (get_or ms b 0 ≡ 1) × (w ≡ [])
Rest (then x y) b ms w = Join (Rest x b ms) (Describes y) w ⊎ Rest y (b + size x) ms w
Rest (or x y) b ms w = Rest x b ms w ⊎ Rest y (b + size x) ms w
Rest (times lo hi x) b ms w = RestTimes (Describes x) (λ k. Rest x k ms) (size x) lo hi b w

-- the mark of each repeat without end is right
abbrev pub GoodUpto : (ℕ → Type 0) → ℕ → ℕ → ℕ → Type 0
GoodUpto G n zero b = Unit {0}
GoodUpto G n (suc h) b = G b × GoodUpto G n h (b + n)

abbrev pub GoodAny : (ℕ → List ℕ → Type 0) → (ℕ → Type 0) → List ℕ → ℕ → ℕ → ℕ → Type 0
GoodAny A G ms n zero b = Told (A (b + 1) []) (eqb (get_or ms b 0) 1) × G (b + 1)
GoodAny A G ms n (suc zero) b = Told (A (b + 1) []) (eqb (get_or ms b 0) 1) × G (b + 1)
GoodAny A G ms n (suc (suc l)) b = G b × GoodAny A G ms n (suc l) (b + n)

abbrev pub GoodTimes : (ℕ → List ℕ → Type 0) → (ℕ → Type 0) → List ℕ → ℕ → ℕ → Most → ℕ → Type 0
GoodTimes A G ms n lo (upto h) b = GoodUpto G n h b
GoodTimes A G ms n lo any b = GoodAny A G ms n lo b

abbrev pub Good : Regexp → ℕ → List ℕ → Type 0
Good empty b ms = Unit {0}
Good (class k gs) b ms = Unit {0}
Good (then x y) b ms = Good x b ms × Good y (b + size x) ms
Good (or x y) b ms = Good x b ms × Good y (b + size x) ms
Good (times lo hi x) b ms = GoodTimes (λ k. Rest x k ms) (λ k. Good x k ms) ms (size x) lo hi b
