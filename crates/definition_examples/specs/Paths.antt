-- Paths worked out: of the sample table's nodes, of keys with each kind of escape, and what the operation leaves in its room.
use Rattle.std.specs.Prelude.{ℕ, ◌≡◌, refl, List, [], ◌∷◌, Bool, true, ◌&&◌, eqb}
use Rattle.definition.specs.Bytes.{same_bytes}
use Rattle.definition.specs.Paths.{step_at, steps_up, steps_to, hex_digit, escaped, escaped_all, digits_up, written, spell_step, spell_steps, path_of, PathOutcome, put_path, path_by, path_outcome}
use Rattle.definition.specs.Paths.Step.{named, placed}
use Rattle.definition_examples.specs.Computes.{computes}
use Rattle.definition_examples.specs.Texts.{bytes, hex}
use Rattle.definition_examples.specs.Sample.{changed, sample_table, sample_text}
use Rattle.definition_examples.specs.Gives.{all}

-- one name that opens the definitions of paths too
unfoldable pub walked : ℕ
unfolding computes step_at steps_up steps_to hex_digit escaped escaped_all digits_up written spell_step spell_steps path_of put_path path_by path_outcome
walked = 0

-- the path of a node of the sample table
abbrev leads : ℕ → List ℕ → Bool
leads i s = same_bytes (path_of sample_table sample_text i) s

-- The escapes of section 2.7 are in small digits, and nothing is escaped that it does not name: neither ", / and 7F nor é. The empty key, and an index of five digits.
pub paths_hold :
    all
    (leads 0 (bytes "$") ∷
    leads 1 (bytes "$['a']") ∷
    leads 2 (bytes "$['b']") ∷
    leads 3 (bytes "$['a'][0]") ∷
    leads 5 (bytes "$['a'][2]") ∷
    same_bytes (spell_steps (named (hex "0B 1F 00") ∷ [])) (bytes "['\\u000b\\u001f\\u0000']") ∷
    same_bytes (spell_steps (named (hex "08 09 0A 0C 0D 27 5C") ∷ [])) (bytes "['\\b\\t\\n\\f\\r\\'\\\\']") ∷
    same_bytes (spell_steps (named (hex "22 2F 7F C3 A9") ∷ [])) (hex "5B 27 22 2F 7F C3 A9 27 5D") ∷
    same_bytes (spell_steps (named [] ∷ placed 65533 ∷ [])) (bytes "[''][65533]") ∷
    []) ≡ true
unfolding walked
paths_hold = refl

-- a refusal, a length, a node and the room
abbrev outcome : PathOutcome → ℕ → ℕ → ℕ → List ℕ → Bool
outcome x n l i room = eqb x.refusal n && (eqb x.size l && (eqb x.node i && same_bytes x.room room))

-- room for one byte more, for all bytes, and for one less, which is 16; a number of no node is 15; a table is judged first
pub writes_hold :
    all
    (outcome (path_outcome sample_table sample_text 2 (bytes "-------")) 0 6 0 (bytes "$['b']-") ∷
    outcome (path_outcome sample_table sample_text 2 (bytes "------")) 0 6 0 (bytes "$['b']") ∷
    outcome (path_outcome sample_table sample_text 2 (bytes "-----")) 16 6 0 (bytes "-----") ∷
    outcome (path_outcome sample_table sample_text 0 []) 16 1 0 [] ∷
    outcome (path_outcome sample_table sample_text 6 (bytes "-")) 15 0 0 (bytes "-") ∷
    outcome (path_outcome [] sample_text 6 (bytes "-")) 9 0 0 (bytes "-") ∷
    outcome (path_outcome (changed 36 1 sample_table) sample_text 6 (bytes "-")) 10 0 1 (bytes "-") ∷
    []) ≡ true
unfolding walked
writes_hold = refl
