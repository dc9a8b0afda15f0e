-- A part of a UTF-8 text is UTF-8 if and only if it begins and ends between characters. Assumes nothing.
use Rattle.std.specs.Prelude.{ℕ, zero, suc, ◌+◌, ◌-◌, ◌≤◌, ◌<◌, ◌≡◌, refl, List, [], ◌∷◌, ◌++◌, Bool, true, false, cond, not, ◌&&◌, eqb, leb, length, take, drop}
use Rattle.std.proofs.Common.{sym, ap, ◌∙◌, true≢false, take-append-drop, drop-drop, arith}
use Rattle.std.proofs.lemmas.Bool.{false≢true}
use Rattle.definition.specs.Bytes.{within, part}
use Rattle.definition.specs.Utf8.{Wait, after_first, more_tails, after_byte, is_utf8_from, is_utf8}
use Rattle.definition.specs.Utf8.Wait.{ready, tail, bad}
use Rattle.utf8_laws.specs.Bytes.{by_test, inside, inside_low, inside_high, after_one, after_two, after_three, after_four, after_low, Lead, lead, stays_bad, passed}
use Rattle.utf8_laws.specs.Bytes.Lead.{one, two, three, four, wrong}

-- ---- between characters

-- a byte that continues a character
abbrev pub is_tail : ℕ → Bool
is_tail b = within 0x80 0xBF b

-- what is left of a text begins with no such byte, or is empty
unfoldable pub begins_fresh : List ℕ → Bool
begins_fresh [] = true
begins_fresh (b ∷ s) = not (is_tail b)

-- whether a place of a text is between characters: the byte there continues none, or the text has ended
unfoldable pub is_between : List ℕ → ℕ → Bool
is_between X at = begins_fresh (drop at X)

-- ---- the state behind a front of a text

unfoldable pub behind_bytes : Wait → List ℕ → Wait
behind_bytes w [] = w
behind_bytes w (b ∷ s) = behind_bytes (after_byte w b) s

unfoldable pub is_ready : Wait → Bool
is_ready ready = true
is_ready (tail lo hi n) = false
is_ready bad = false

-- a text is right behind a state if it leads to where a character may begin
pub ready_behind : (w : Wait) (s : List ℕ) → is_utf8_from w s ≡ is_ready (behind_bytes w s)
unfolding is_utf8_from behind_bytes is_ready
ready_behind ready [] = refl
ready_behind (tail lo hi n) [] = refl
ready_behind bad [] = refl
ready_behind ready (b ∷ s) = ready_behind (after_byte ready b) s
ready_behind (tail lo hi n) (b ∷ s) = ready_behind (after_byte (tail lo hi n) b) s
ready_behind bad (b ∷ s) = ready_behind (after_byte bad b) s

pub behind_append : (w : Wait) (a b : List ℕ) → behind_bytes w (a ++ b) ≡ behind_bytes (behind_bytes w a) b
unfolding behind_bytes
behind_append w [] b = refl
behind_append w (x ∷ a) b = behind_append (after_byte w x) a b

-- the states that a text leads to: bytes that are waited for continue a character
pub data Sound : Wait → Type 0 where
  is_fresh : Sound ready
  waits : {lo hi n : ℕ} → 0x80 ≤ lo → hi ≤ 0xBF → Sound (tail lo hi n)
  is_wrong : Sound bad

either_bound : (b x lo : ℕ) → 0x80 ≤ lo → 0x80 ≤ cond (eqb b x) lo 0x80
either_bound b x lo h = by_test (eqb b x) (λ y. rw y h) (λ n. rw n (omega arith))

either_top : (b x hi : ℕ) → hi ≤ 0xBF → cond (eqb b x) hi 0xBF ≤ 0xBF
either_top b x hi h = by_test (eqb b x) (λ y. rw y h) (λ n. rw n (omega arith))

sound_first : (b : ℕ) → Sound (after_first b)
sound_first b = by (lead b)
  where
    by : Lead b → Sound (after_first b)
    by (one h) = rw (after_one b h) is_fresh
    by (two l h) = rw (after_two b l h) (waits {lo = 0x80} {hi = 0xBF} (omega arith) (omega arith))
    by (three l h) = rw (after_three b l h) (waits (either_bound b 0xE0 0xA0 (omega arith)) (either_top b 0xED 0x9F (omega arith)))
    by (four l h) = rw (after_four b l h) (waits (either_bound b 0xF0 0x90 (omega arith)) (either_top b 0xF4 0x8F (omega arith)))
    by (wrong w) = rw w is_wrong

sound_more : (n : ℕ) → Sound (more_tails n)
unfolding more_tails
sound_more zero = is_fresh
sound_more (suc n) = waits {lo = 0x80} {hi = 0xBF} (omega arith) (omega arith)

sound_after : (w : Wait) (b : ℕ) → Sound w → Sound (after_byte w b)
unfolding after_byte
sound_after w b is_fresh = sound_first b
sound_after w b (waits {lo} {hi} {n} l h) = by_test (within lo hi b) (λ y. rw y (sound_more n)) (λ e. rw e is_wrong)
sound_after w b is_wrong = is_wrong

sound_behind : (w : Wait) (s : List ℕ) → Sound w → Sound (behind_bytes w s)
unfolding behind_bytes
sound_behind w [] h = h
sound_behind w (b ∷ s) h = sound_behind (after_byte w b) s (sound_after w b h)

-- a byte that continues a character begins no UTF-8 text
pub tail_begins_none : (b : ℕ) (s : List ℕ) → is_tail b ≡ true → is_utf8 (b ∷ s) ≡ false
unfolding is_utf8 is_utf8_from after_byte
tail_begins_none b s e = let l = inside_low 0x80 0xBF b e in let h = inside_high 0x80 0xBF b e in rw (after_low b l (omega arith)) (stays_bad s)

-- what is left of a right text begins fresh if and only if the state behind its front is ready
fresh_ready : (w : Wait) (s : List ℕ) → Sound w → is_utf8_from w s ≡ true → begins_fresh s ≡ is_ready w
unfolding begins_fresh is_ready is_utf8
fresh_ready w [] is_fresh u = refl
fresh_ready w (b ∷ s) is_fresh u = by_test (is_tail b) (λ y. absurd (true≢false (sym u ∙ tail_begins_none b s y))) (λ n. rw n)
fresh_ready w s (waits {lo} {hi} {n} l h) u =
    let p = passed lo hi n s u in
    let pl = p.low in
    let ph = p.high in
    rw (p.is, inside 0x80 0xBF p.byte (omega arith) (omega arith))
fresh_ready w s is_wrong u = absurd (false≢true (sym (stays_bad s) ∙ u))

-- ---- parts

-- a text in three: what is before a part, the part, and what is behind it
three_parts : (X : List ℕ) (at n : ℕ) → take at X ++ (part X at n ++ drop (at + n) X) ≡ X
three_parts X at n = rw (← drop-drop n at X) (rw (take-append-drop n (drop at X)) (take-append-drop at X))

not_fresh : (s : List ℕ) (n : ℕ) → 0 < n → begins_fresh s ≡ false → is_utf8 (take n s) ≡ false
unfolding begins_fresh
not_fresh s zero l e = absurd (omega arith)
not_fresh [] (suc n) l e = absurd (true≢false e)
not_fresh (b ∷ s) (suc n) l e = by_test (is_tail b) (λ y. tail_begins_none b (take n s) y) (λ f. absurd (true≢false (rw f at e)))

part_by : (w : Wait) (s t : List ℕ) (n : ℕ) → 0 < n → begins_fresh s ≡ is_ready w → begins_fresh t ≡ is_ready (behind_bytes w (take n s)) → is_utf8 (take n s) ≡ (begins_fresh s && begins_fresh t)
unfolding is_ready is_utf8
part_by ready s t n l e f = ready_behind ready (take n s) ∙ rw (e, f)
part_by (tail lo hi m) s t n l e f = rw e (not_fresh s n l e)
part_by bad s t n l e f = rw e (not_fresh s n l e)

-- A part that is not empty of a UTF-8 text is UTF-8 if and only if it begins and ends between characters.
pub part_between : (X : List ℕ) (at n : ℕ) → is_utf8 X ≡ true → 0 < n → is_utf8 (part X at n) ≡ (is_between X at && is_between X (at + n))
unfolding is_between is_utf8
part_between X at n u l =
    let w = behind_bytes ready (take at X) in
    let v = behind_bytes w (part X at n) in
    let sw : Sound w = sound_behind ready (take at X) is_fresh in
    let sv : Sound v = sound_behind w (part X at n) sw in
    let e : is_utf8_from w (drop at X) ≡ true =
    ready_behind w (drop at X) ∙ ap is_ready (sym (behind_append ready (take at X) (drop at X)) ∙ ap (behind_bytes ready) (take-append-drop at X)) ∙ sym (ready_behind ready X) ∙ u in
    let f : is_utf8_from v (drop (at + n) X) ≡ true =
    ready_behind v (drop (at + n) X)
    ∙ ap is_ready (sym (behind_append w (part X at n) (drop (at + n) X)) ∙ sym (behind_append ready (take at X) (part X at n ++ drop (at + n) X)) ∙ ap (behind_bytes ready) (three_parts X at n))
    ∙ sym (ready_behind ready X)
    ∙ u in
    part_by w (drop at X) (drop (at + n) X) n l (fresh_ready w (drop at X) sw e) (fresh_ready v (drop (at + n) X) sv f)
