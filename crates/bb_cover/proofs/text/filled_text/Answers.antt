use Rattle.std.proofs.Common.{◌≡◌, ℕ, ◌+◌, ◌*◌, ◌++◌, length, ap, ap₂, sym, ◌∙◌, arith, append_assoc, take, drop}
use Rattle.bb_machine.specs.Entry.{entry_text}
use Rattle.bb_machine.specs.Machine.{Table, symbols_of, text}
use Rattle.laws_of_verdicts.specs.Closed.{with_entry}
use Rattle.bb_cover.proofs.Texts.{IsCut, after_is, before_is, cut, text_long}
use Rattle.bb_cover.proofs.text.filled_text.Goals as goal
use Rattle.bb_cover.proofs.text.filled_text.Goals.{After-as_slice}

-- the place of the entry, and the length of the text
module _ (c : After-as_slice) where
  abbrev table : Table
  table = c.args.machine.now

  abbrev q : ℕ
  q = c.args.undefined.state

  abbrev s : ℕ
  s = c.args.undefined.symbol

  here : IsCut (λ e. text (with_entry table q s e)) (q * (3 * symbols_of table + 1) + 3 * s)
  here = cut table c.symbols.ensures.machine q s c.requires.state c.requires.symbol

  place : q * (3 * c.symbols.result + 1) + 3 * s ≡ q * (3 * symbols_of table + 1) + 3 * s
  place = ap (λ k. q * (3 * k + 1) + 3 * s) c.symbols.ensures.value

  is_text : c.as_slice.result.now ≡ text table
  is_text = c.as_slice.ensures.value ∙ c.text_of-own.ensures

  long : length c.as_slice.result.now
      ≡ q * (3 * c.symbols.result + 1) + 3 * s + 3
      + length (cut table c.symbols.ensures.machine q s c.requires.state c.requires.symbol).after
  long = ap length is_text ∙ text_long table c.symbols.ensures.machine q s c.requires.state c.requires.symbol
      ∙ ap (λ x. x + 3 + length (cut table c.symbols.ensures.machine q s c.requires.state c.requires.symbol).after)
      (sym place)

pub split_at-requires : goal.split_at-requires
split_at-requires c = omega (arith, long c)

pub split_at-requires-2 : goal.split_at-requires-2
split_at-requires-2 c =
    let at = (goal.at.split_at-requires-2 c).After-as_slice in
    omega (arith, long at, c.split_at.ensures.back_len)

pub returns : goal.returns
returns c named =
    let at = (goal.at.returns c).After-as_slice in
    let front = c.split_at.ensures.front ∙ ap (take _) (is_text at)
    ∙ before_is (table at) c.symbols.ensures.machine (q at) (s at) c.requires.state c.requires.symbol _ (place at) in
    let back = c.split_at-2.ensures.back ∙ ap (drop 3) (c.split_at.ensures.back ∙ ap (drop _) (is_text at))
    ∙ after_is (table at) c.symbols.ensures.machine (q at) (s at) c.requires.state c.requires.symbol _ (place at) in
    let bytes = c.bytes_of.ensures named in
    let one = c.append.ensures.appended ∙ ap₂ ◌++◌ c.new-words.ensures front in
    let two = c.append-2.ensures.appended ∙ ap₂ ◌++◌ one bytes in
    let three = c.append-3.ensures.appended ∙ ap₂ ◌++◌ two back in
    let whole = cut (table at) c.symbols.ensures.machine (q at) (s at) c.requires.state c.requires.symbol in
    three ∙ append_assoc whole.before (entry_text c.args.entry) whole.after ∙ sym (whole.is c.args.entry)
