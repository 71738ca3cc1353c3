-- What keeps a tape sound.
use Rattle.std.proofs.Common.{arith, ◌≡◌, ◌≢◌, ◌≤◌, ◌<◌, ℕ, ℤ, pos, ◌+ℤ◌, ◌≤ℤ◌, ◌∙◌}
use Rattle.std.proofs.lemmas.Int.{ints, clamps}
use Rattle.std.specs.Int.{int_min, int_max}
use Rattle.bb_tape.specs.declared.window.Window.{Window}
use Rattle.bb_tape.specs.declared.tape.TheConstants.{MAX_SYMBOL}
use Rattle.bb_tape.specs.Content.{Content, HasSymbols, blank, cell, with_cell}
use Rattle.bb_tape.specs.TapeView.{TapeView, IsSound, IsInside, IsStretch}
use Rattle.bb_tape.specs.Windowed.{view_of}
use Rattle.bb_tape.proofs.Content.{cell-blank, cell-with_cell-same, cell-with_cell-other, by_position}

-- a window's own facts, that all cells outside it are 0, and that each cell has a symbol
pub sound_from : (c : Content) (w : Window) → ((p : ℤ) → cell c p ≢ 0 → IsInside (view_of c w) p)
    → HasSymbols c → IsSound (view_of c w)
sound_from c w nothing symbols =
    record {
      from_zero = w.valid.from_zero;
      to_zero = w.valid.to_zero;
      within = w.valid.within;
      limited = w.valid.limited;
      nothing_outside = nothing;
      symbols = symbols;
    }

pub sound_blank : (w : Window) → IsSound (view_of blank w)
sound_blank w = sound_from blank w (λ p ne. absurd (ne (cell-blank p))) (λ p. omega (arith, cell-blank p))

-- in a wider window
pub sound_wider : (c : Content) (w : Window) (p : ℤ) (v : Window) → IsSound (view_of c w)
    → v.low ≡ int_min w.low p → v.high ≡ int_max w.high p → IsSound (view_of c v)
sound_wider c w p v s low high =
    sound_from c v (λ q ne. let old : IsInside (view_of c w) q = s.nothing_outside q ne in
    (omega (arith, ints, clamps), omega (arith, ints, clamps))) s.symbols

symbols_written : (c : Content) (p : ℤ) (v : ℕ) → HasSymbols c → v ≤ MAX_SYMBOL
    → HasSymbols (with_cell c p v)
symbols_written c p v s small q =
    by_position q p _
    (λ here. rw here (omega (arith, cell-with_cell-same c p v)))
    (λ there. omega (arith, cell-with_cell-other c p v q there, s q))

-- after a write in the window
pub sound_written : (c : Content) (w : Window) (p : ℤ) (v : ℕ) → IsSound (view_of c w) → w.low ≤ℤ p
    → p ≤ℤ w.high → v ≤ MAX_SYMBOL → IsSound (view_of (with_cell c p v) w)
sound_written c w p v s low high small = sound_from (with_cell c p v) w
    (λ q ne.
    by_position q p _
    (λ here. rw here (low, high))
    (λ there. s.nothing_outside q (λ e. ne (cell-with_cell-other c p v q there ∙ e))))
    (symbols_written c p v s.symbols small)

-- a stretch that isn't empty begins in the window
pub stretch_begins : (s : TapeView) (from : ℤ) (len k : ℕ) → IsStretch s from len → k < len → s.low ≤ℤ from
stretch_begins s from len k inside some =
    let first : IsInside s (from +ℤ pos 0) = inside 0 (omega arith) in omega (arith, ints)
