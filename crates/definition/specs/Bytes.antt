-- Lists of bytes: little-endian numbers of any width, two's complement, parts, equality and order.
use Prim.Native.Nat.{ℕ, zero, suc, ◌+◌, ◌-◌, ◌*◌, ◌/◌, ◌%◌, ◌^◌, compare, Ordering}
use Rattle.std.specs.Prelude.{List, [], ◌∷◌, Bool, true, false, cond, ◌&&◌, eqb, leb, ltb, ℤ, pos, negsuc, take, drop}

-- whether a test holds of every element
abbrev pub every : (ℕ → Bool) → List ℕ → Bool
every p [] = true
every p (c ∷ s) = p c && every p s

-- whether lo ≤ c ≤ hi: ABNF's %xLO-HI
abbrev pub within : ℕ → ℕ → ℕ → Bool
within lo hi c = leb lo c && leb c hi

-- the n elements of s from a place on, fewer where s ends before
abbrev pub part : List ℕ → ℕ → ℕ → List ℕ
part s at n = take n (drop at s)

-- "little-endian": what the bytes stand for, and the w bytes of a number
unfoldable pub number : List ℕ → ℕ
number [] = 0
number (b ∷ s) = b + 256 * number s

unfoldable pub little_endian : ℕ → ℕ → List ℕ
little_endian zero n = []
little_endian (suc w) n = n % 256 ∷ little_endian w (n / 256)

-- "integer in two's complement", of 64 bits
abbrev pub signed64 : ℕ → ℤ
signed64 n = cond (ltb n (2 ^ 63)) (pos n) (negsuc (2 ^ 64 - suc n))

abbrev pub unsigned64 : ℤ → ℕ
unsigned64 (pos n) = n
unsigned64 (negsuc n) = 2 ^ 64 - suc n

unfoldable pub same_bytes : List ℕ → List ℕ → Bool
same_bytes [] [] = true
same_bytes [] (y ∷ t) = false
same_bytes (x ∷ s) [] = false
same_bytes (x ∷ s) (y ∷ t) = eqb x y && same_bytes s t

-- the order that the first unlike byte decides, the shorter text first where there is none
unfoldable pub order_bytes : List ℕ → List ℕ → Ordering
order_bytes [] [] = Ordering.eq
order_bytes [] (y ∷ t) = Ordering.lt
order_bytes (x ∷ s) [] = Ordering.gt
order_bytes (x ∷ s) (y ∷ t) = elim (compare x y) [ Ordering.lt ↦ Ordering.lt | Ordering.eq ↦ order_bytes s t | Ordering.gt ↦ Ordering.gt ]
