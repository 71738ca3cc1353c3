-- The file of machines that are assumed never to halt, line by line: this project's own.
use Rattle.std.specs.Prelude.{◌≡◌, ◌⊎◌, ℕ, ◌+◌, List, [], ◌∷◌, ◌++◌, All, length, map, codes}
use Rattle.std.specs.Prelude.{Option, None, Some}
use Rattle.std.specs.Io.KnownBytes.{Consumes, IsAtEnd}
use Rattle.bb_cover.specs.Counts.{saturated}
use Rattle.bb_machine.specs.Machine.{Table, IsMachine, text}
use Rattle.bb_lines.specs.Lines.{lines}
use Rattle.cover.specs.declared.assumed.AssumedLines.{AssumedLines}

-- the line of a machine with this text, which is assumed never to halt
pub record IsAssumption (words line : List ℕ) : Type 0 where
  pub table : Table
  pub machine : IsMachine table
  pub words_are : text table ≡ words
  pub whole : words ++ codes " nonhalt" ≡ line

-- the texts of the machines of these lines, in their order; an empty line has none
abbrev pub AreAssumed : List (List ℕ) → List (List ℕ) → Type 0
AreAssumed [] texts = texts ≡ []
AreAssumed ([] ∷ lines) texts = AreAssumed lines texts
AreAssumed ((byte ∷ bytes) ∷ lines) [] = ⊥
AreAssumed ((byte ∷ bytes) ∷ lines) (words ∷ texts) =
    IsAssumption words (byte ∷ bytes) × AreAssumed lines texts

-- by the bytes left in a file before and then: its lines name the machines of these texts
abbrev pub ReadsAssumed : Option (List ℕ) → Option (List ℕ) → List (List ℕ) → Type 0
ReadsAssumed left left_then texts = (taken : List ℕ) × Consumes left left_then taken × IsAtEnd left_then
    × AreAssumed (lines taken) texts

-- an empty line, or one that names a machine
abbrev pub IsFine : List ℕ → Type 0
IsFine [] = Unit {0}
IsFine (byte ∷ bytes) = (words : List ℕ) × IsAssumption words (byte ∷ bytes)

-- the number, counted from 1, of the first of these lines that is neither
pub record IsFirstWrong (lines : List (List ℕ)) (number : ℕ) : Type 0 where
  pub before : List (List ℕ)
  pub line : List ℕ
  pub after : List (List ℕ)
  pub split : lines ≡ before ++ line ∷ after
  pub fine : All IsFine before
  pub wrong : IsFine line → ⊥
  pub at : number ≡ saturated (length before + 1)

-- by the bytes left in a file before and then: its first wrong line has this number
abbrev pub ReadsWrong : Option (List ℕ) → Option (List ℕ) → ℕ → Type 0
ReadsWrong left left_then number = (taken : List ℕ) × Consumes left left_then taken × IsAtEnd left_then
    × IsFirstWrong (lines taken) number

-- a line more

abbrev pub texts_of : AssumedLines → List (List ℕ)
texts_of sink = map (λ one. one.items) sink.texts.items

abbrev pub AddsLine : List (List ℕ) → List ℕ → List (List ℕ) → Type 0
AddsLine before [] after = after ≡ before
AddsLine before (byte ∷ bytes) after = (words : List ℕ) × IsAssumption words (byte ∷ bytes)
    × (after ≡ before ++ words ∷ [])

-- a line adds its machine, or it is the first wrong one
abbrev pub TookNext : AssumedLines → List ℕ → AssumedLines → Type 0
TookNext old line new = ((new.wrong ≡ None) × AddsLine (texts_of old) line (texts_of new))
    ⊎ ((new.wrong ≡ Some new.lines) × (IsFine line → ⊥))

-- the first wrong line stays the first
abbrev pub TookBy : Option ℕ → AssumedLines → List ℕ → AssumedLines → Type 0
TookBy None old line new = TookNext old line new
TookBy (Some number) old line new = new.wrong ≡ Some number

pub record TookLine (old : AssumedLines) (line : List ℕ) (new : AssumedLines) : Type 0 where
  pub counted : new.lines ≡ saturated (old.lines + 1)
  pub by : TookBy old.wrong old line new

-- the refusal of a line with this number
abbrev pub wrong_text : List ℕ → List ℕ
wrong_text number = codes "cover: line " ++ (number ++ codes " of the file of --assume isn't MACHINE nonhalt")
