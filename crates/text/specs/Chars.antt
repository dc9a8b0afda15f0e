-- The length of the character that a text begins with, from the definition's states of a UTF-8 text.
use Rattle.std.specs.Prelude.{ℕ, zero, suc, ◌+◌, Bool, false, cond, ◌&&◌, List, [], ◌∷◌, leb, ltb, length, take}
use Rattle.definition.specs.Bytes.{every, within}
use Rattle.definition.specs.Utf8.{Wait, after_first}
use Rattle.definition.specs.Utf8.Wait.{ready, tail, bad}
use Rattle.text.specs.declared.encoding.Wait.{Wait as Held}
use Rattle.text.specs.declared.encoding.Wait.TheVariants.{Ready, Tail, Bad}

-- the state that a value of the code stands for
abbrev pub wait_of : Held → Wait
wait_of Ready = ready
wait_of (Tail lo hi n) = tail lo hi n
wait_of Bad = bad

-- whether a text begins with a byte in lo..hi and n bytes in 80..BF after it
unfoldable pub tails_pass : ℕ → ℕ → ℕ → List ℕ → Bool
tails_pass lo hi n [] = false
tails_pass lo hi zero (b ∷ s) = within lo hi b
tails_pass lo hi (suc n) (b ∷ s) = within lo hi b && tails_pass 0x80 0xBF n s

-- the length of a character whose later bytes those are, or 0 where the text does not begin with them
unfoldable pub tails_length : ℕ → ℕ → ℕ → List ℕ → ℕ
tails_length lo hi n s = cond (tails_pass lo hi n s) (n + 2) 0

-- the length of a character of whose first byte a state is left, with s behind it
unfoldable pub length_after : Wait → List ℕ → ℕ
length_after ready s = 1
length_after (tail lo hi n) s = tails_length lo hi n s
length_after bad s = 0

-- the length of the character that a text begins with, or 0 where it begins with none
unfoldable pub char_length : List ℕ → ℕ
char_length [] = 0
char_length (b ∷ s) = length_after (after_first b) s

-- a byte that is a character of its own
abbrev pub is_ascii : ℕ → Bool
is_ascii b = ltb b 0x80

-- whether a text begins with n ASCII bytes
abbrev pub ascii_run : ℕ → List ℕ → Bool
ascii_run n s = leb n (length s) && every is_ascii (take n s)

-- how many bytes the test passes at once: eight ASCII bytes, or a character
unfoldable pub step_length : List ℕ → ℕ
step_length s = cond (ascii_run 8 s) 8 (char_length s)
