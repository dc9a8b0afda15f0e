-- What a caller needs to know of quotes: the two quotes' bytes meet what unescape_string requires. Assumes nothing.
use Rattle.std.specs.Prelude.{ℕ, ◌≡◌, refl, ◌⊎◌}
use Rattle.std.proofs.Common.{inl, inr}
use Rattle.definition.specs.Lexical.{Quote, own_byte}
use Rattle.definition.specs.Lexical.Quote.{double, single}
use Rattle.text_quoted.specs.Quoted.{quote_of}

-- a kind of quoted text is the one that its quote begins
pub quote_of_own : (q : Quote) → quote_of (own_byte q) ≡ q
unfolding quote_of
quote_of_own double = refl
quote_of_own single = refl

-- a quote is the own quote of the kind of text that it begins
pub own_of_quote : (b : ℕ) → (b ≡ 0x22) ⊎ (b ≡ 0x27) → own_byte (quote_of b) ≡ b
unfolding quote_of
own_of_quote b (inl e) = rw e
own_of_quote b (inr e) = rw e
