-- What is said of two parts from what is said of each. Assumes nothing: these are definitions.
use Rattle.std.specs.Prelude.{Bool, false, ◌&&◌, ◌||◌, cond, ℕ, ◌+◌, ◌/◌, ◌%◌, eqb, leb}
use Rattle.regex_marks.specs.declared.passes.Pass.{Pass}

-- a pass in one word
abbrev pub flag_of : Bool → ℕ
flag_of b = cond b 1 0

abbrev pub pass_of : ℕ → Pass
pass_of w =
    record {
      next = w / 524288;
      size = w / 8 % 65536;
      empty = eqb (w / 4 % 2) 1;
      was = eqb (w / 2 % 2) 1;
      now = eqb (w % 2) 1;
    }

abbrev pub enter_of : Bool → Pass → Bool
enter_of m s = s.was || (m && s.empty)

abbrev pub chain_of : Pass → Pass → Pass
chain_of s t =
    record {
      next = t.next;
      size = s.size + t.size;
      empty = s.empty && t.empty;
      was = (s.was && t.empty) || t.was;
      now = (s.now && t.empty) || t.now;
    }

abbrev pub fork_of : Pass → Pass → Pass
fork_of s t =
    record {
      next = t.next;
      size = s.size + t.size;
      empty = s.empty || t.empty;
      was = s.was || t.was;
      now = s.now || t.now;
    }

abbrev pub link_of : ℕ → Pass → Pass → Pass
link_of lo s t =
    record {
      next = t.next;
      size = s.size + t.size;
      empty = eqb lo 0 || (s.empty && t.empty);
      was = (s.was && t.empty) || t.was;
      now = (s.now && t.empty) || t.now;
    }

abbrev pub last_of : ℕ → Pass → Pass
last_of lo s = record { next = s.next; size = 0; empty = leb lo 1; was = false; now = false }

-- copies of a part without marks
abbrev pub bare_of : ℕ → ℕ → Pass → Pass
bare_of lo hi s = record { next = s.next; size = 0; empty = eqb lo 0 || (s.empty && leb lo hi); was = false; now = false }

abbrev pub bare_loop_of : Pass → Pass
bare_loop_of s = record { next = s.next; size = 1; empty = s.empty; was = false; now = false }

abbrev pub loop_of : ℕ → Pass → Pass
loop_of lo s = record { next = s.next; size = 1 + s.size; empty = eqb lo 0 || s.empty; was = s.was; now = s.now }

abbrev pub stop_of : ℕ → Pass
stop_of at = record { next = at; size = 0; empty = false; was = false; now = false }

-- no character, and no copy
abbrev pub empty_of : ℕ → Bool → Pass
empty_of at e = record { next = at; size = 0; empty = e; was = false; now = false }

-- two parts in a row for the word 2, one of two for the word 3: whether the second is entered, and what is said of both
abbrev pub second_of : ℕ → Bool → Pass → Bool
second_of k m s = cond (eqb k 2) (enter_of m s) m

abbrev pub joined_of : ℕ → Pass → Pass → Pass
joined_of k s t = cond (eqb k 2) (chain_of s t) (fork_of s t)
