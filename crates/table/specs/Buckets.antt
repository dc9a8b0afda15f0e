-- The bucket of a key. Any function of the key's bytes would do: the contracts only need that equal keys have one bucket.
-- Assumes nothing: these are definitions.
use Rattle.std.specs.Prelude.{ℕ, zero, suc, ◌+◌, ◌-◌, ◌*◌, ◌/◌, ◌%◌, List, cond, eqb, ltb, length}
use Rattle.definition.specs.Bytes.{part, number}
use Rattle.definition.specs.Tables.{key_bytes}

-- how many hashes there are
abbrev pub hashes : ℕ
hashes = 4294967296

-- a hash and a number, both of 32 bits, become the middle 32 bits of a product
unfoldable pub mixed : ℕ → ℕ → ℕ
mixed h w = (h + w) * 1640531527 / 65536 % hashes

-- n numbers of w bytes each, from a place on, are mixed into a hash
unfoldable pub folded : ℕ → List ℕ → ℕ → ℕ → ℕ → ℕ
folded w s zero at h = h
folded w s (suc n) at h = folded w s n (at + w) (mixed h (number (part s at w)))

-- the whole words of four bytes, and then the last four bytes once more if bytes are left; of a shorter key each byte
unfoldable pub hash_of : List ℕ → ℕ
hash_of s =
    cond (ltb (length s) 4) (folded 1 s (length s) 0 0)
    (cond (eqb (length s % 4) 0) (folded 4 s (length s / 4) 0 0) (mixed (folded 4 s (length s / 4) 0 0) (number (part s (length s - 4) 4))))

-- the two halves of the hash together choose one of n buckets
unfoldable pub bucket_of : ℕ → List ℕ → ℕ
bucket_of n s = (hash_of s + hash_of s / 65536) % n

-- the bucket of a node's key
abbrev pub bucket_at : ℕ → List ℕ → List ℕ → ℕ → ℕ
bucket_at n T X i = bucket_of n (key_bytes T X i)
