-- Tables for the examples, built record by record, and the table of document 01's sample rows, {"a":[10,20.0,30],"b":"é"}, with the text "abé".
use Rattle.std.specs.Prelude.{ℕ, suc, ◌/◌, ◌%◌, List, [], ◌∷◌, ◌++◌, take, drop}
use Rattle.definition_examples.specs.Texts.{hex}

-- a number in four bytes, the lowest first
abbrev pub four : ℕ → List ℕ
four n = n % 256 ∷ n / 256 % 256 ∷ n / 65536 % 256 ∷ n / 16777216 % 256 ∷ []

-- a record of a kind at a depth: its key's start and length, and the two words of its payload
abbrev pub node : ℕ → ℕ → ℕ → ℕ → ℕ → ℕ → List ℕ
node kind depth key_at keySize low high = kind ∷ depth ∷ 0 ∷ 0 ∷ (four key_at ++ (four keySize ++ (four 0 ++ (four low ++ four high))))

-- a record with the number of its parent in bytes 12-15, where that is not the root
abbrev pub under : ℕ → List ℕ → List ℕ
under p r = take 12 r ++ (four p ++ drop 16 r)

-- records, end to end
abbrev pub table : List (List ℕ) → List ℕ
table [] = []
table (r ∷ rs) = r ++ table rs

-- a table with another byte at a place
abbrev pub changed : ℕ → ℕ → List ℕ → List ℕ
changed at b T = take at T ++ b ∷ drop (suc at) T

-- ---- the sample table

-- the root, a map of two members from node 1 on
abbrev pub root : List ℕ
root = node 7 0 0 0 1 2

-- node 1, the list under the key a, of three elements from node 3 on
abbrev pub list_a : List ℕ
list_a = node 6 1 0 1 3 3

-- node 2, the text under the key b
abbrev pub text_b : List ℕ
text_b = node 5 1 1 1 2 2

-- node 3, the integer 10
abbrev pub ten : List ℕ
ten = under 1 (node 3 2 0 0 10 0)

-- node 4, the float 20.0
abbrev pub twenty : List ℕ
twenty = under 1 (node 4 2 0 0 0 0x40340000)

-- node 5, the integer 30
abbrev pub thirty : List ℕ
thirty = under 1 (node 3 2 0 0 30 0)

abbrev pub sample_table : List ℕ
sample_table = root ++ (list_a ++ (text_b ++ (ten ++ (twenty ++ thirty))))

-- "abé"
abbrev pub sample_text : List ℕ
sample_text = hex "61 62 C3 A9"
