-- The numbers that documents 01 and 02 name as limits, each stated once.
use Rattle.std.specs.Prelude.{ℕ, ◌^◌}

-- refusal 1: "query over 4,096 bytes"
abbrev pub max_query : ℕ
max_query = 4096

-- refusal 3: "bracket count passes 32"
abbrev pub max_brackets : ℕ
max_brackets = 32

-- refusal 4 and the stop of count: 2^53-1
abbrev pub max_int : ℕ
max_int = 9007199254740991

-- refusal 8: "N is below ten to the 19", "E is in -342..308"
abbrev pub literal_limit : ℕ
literal_limit = 10 ^ 19

abbrev pub min_exponent : ℕ
min_exponent = 342

abbrev pub max_exponent : ℕ
max_exponent = 308

-- refusal 9: "over 65,535 nodes, or text over 16,777,216 bytes"
abbrev pub max_nodes : ℕ
max_nodes = 65535

abbrev pub max_text : ℕ
max_text = 16777216

-- "Records of 24 bytes"
abbrev pub record_size : ℕ
record_size = 24

-- "Byte 1 depth, at most 63"
abbrev pub max_depth : ℕ
max_depth = 63

-- "A map has at most 1,024 members"
abbrev pub max_members : ℕ
max_members = 1024

-- refusal 11: "over 65,535 bytes", of the plan and of the pool
abbrev pub max_plan : ℕ
max_plan = 65535

-- "no item inside more than 128 filters, functions, nots and right operands"
abbrev pub max_nesting : ℕ
max_nesting = 128
