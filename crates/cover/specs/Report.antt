-- The printed line, byte for byte: this project's own.
use Rattle.std.specs.Prelude.{ℕ, ◌-◌, List, [], ◌∷◌, ◌++◌, Option, Some, None, codes, decimal, if◌then◌else◌}
use Rattle.std.specs.Prelude.{nat_eq, option_map, zero, suc}
use Rattle.bb_machine.specs.Machine.{Table, text}
use Rattle.bb_cert.specs.declared.checker.answer.Answer.{Answer}
use Rattle.bb_cert.specs.declared.checker.answer.Answer.TheVariants.{Ok, Bad, Over, Open}
use Rattle.bb_cover.specs.declared.counts.Counts.{Counts}
use Rattle.bb_cover.specs.declared.found.Found.{Found}
use Rattle.bb_cover.specs.declared.found.Found.TheVariants.{Covers, Stops}
use Rattle.bb_cover.specs.declared.found.Why.{Why}
use Rattle.bb_cover.specs.declared.found.Why.TheVariants.{Unread, NotNext, Refused, TooMany, TooSoon, Beyond}
use Rattle.bb_cover.specs.declared.list.Cover.{Cover}
use Rattle.bb_cover.specs.declared.task.Form.{Form}
use Rattle.bb_cover.specs.declared.task.Form.TheVariants.{Skeleton, Verdicts}
use Rattle.bb_cover.specs.declared.task.Task.{Task}

-- a number, and the word for one, or for any other number
abbrev pub counted_text : ℕ → List ℕ → List ℕ → List ℕ
counted_text n one many = decimal n ++ (if nat_eq n 1 then one else many)

-- what is covered, with the machine of a shard, or with states and symbols
abbrev pub root_text : Option Table → ℕ → ℕ → List ℕ
root_text None states symbols = codes "covers " ++ (counted_text states (codes " state ") (codes " states ")
    ++ (decimal symbols ++ codes " symbols"))
root_text (Some first) states symbols = codes "covers below " ++ text first

-- of a skeleton, how many lines stand for shards
abbrev pub shards_text : Form → ℕ → List ℕ
shards_text Verdicts shards = []
shards_text Skeleton shards = codes ", given " ++ counted_text shards (codes " shard") (codes " shards")

-- all lines, those undecided, and those of them with more than one `---`
abbrev pub counts_text : Counts → List ℕ
counts_text counts = codes ": " ++ (counted_text counts.lines (codes " line, ") (codes " lines, ")
    ++ (decimal counts.undecided ++ (codes " undecided, " ++ (decimal counts.wide
    ++ codes " of them with more than one "))))

abbrev pub undefined_text : Option Table → List ℕ
undefined_text None = codes "---"
undefined_text (Some first) = codes "undefined transition"

abbrev pub outside_text : Form → List ℕ
outside_text Verdicts = []
outside_text Skeleton = codes "outside shards "

-- the greatest halt
abbrev pub halts_text : Form → Counts → List ℕ
halts_text form counts = codes "; halts " ++ (outside_text form ++ (codes "within "
    ++ (counted_text counts.most_steps (codes " step, score up to ") (codes " steps, score up to ")
    ++ decimal counts.most_score)))

-- how many lines are open: undecided, and not of an assumed machine
abbrev pub open_text : Counts → List ℕ
open_text counts = codes "; " ++ (decimal (counts.undecided - counts.assumed) ++ (codes " open, "
    ++ (decimal counts.assumed ++ codes " assumed")))

-- the number of the line that is sought, if one is
abbrev pub place_text : Option (List ℕ) → ℕ → List ℕ
place_text None place = []
place_text (Some words) zero = codes "; " ++ (words ++ codes " isn't a line")
place_text (Some words) (suc n) = codes "; " ++ (words ++ (codes " is line " ++ decimal (suc n)))

-- the next machine; before the first line none is known
abbrev pub asked_text : List ℕ → List ℕ
asked_text [] = codes "a machine with no entry"
asked_text (byte ∷ bytes) = byte ∷ bytes

abbrev pub unread_text : Form → List ℕ
unread_text Verdicts = codes "it is no verdict line"
unread_text Skeleton = codes "it is no verdict line and no shard"

-- the checker's answer to the claim on a machine
abbrev pub refused_text : Answer → List ℕ
refused_text Over = codes " needs more than the limits"
refused_text Ok = codes " doesn't hold"
refused_text Bad = codes " doesn't hold"
refused_text Open = codes " doesn't hold"

abbrev pub too_many_text : List ℕ
too_many_text = codes "more than 18446744073709551615 lines in all"

abbrev pub beyond_text : List ℕ
beyond_text = codes "no line expected, all machines were visited"

-- the reason, with the next machine and that of the line
abbrev pub why_text : Form → List ℕ → List ℕ → Why → List ℕ
why_text form asked given Unread = unread_text form
why_text form asked given NotNext = asked_text asked ++ (codes " expected, found " ++ given)
why_text form asked given (Refused answer) = codes "the claim on " ++ (given ++ refused_text answer)
why_text form asked given TooMany = too_many_text
why_text form asked given TooSoon = asked_text asked ++ codes " expected, the list ends"
why_text form asked given Beyond = beyond_text

abbrev pub found_text : Task → Cover → Found → List ℕ
found_text task cover (Covers states symbols) = root_text task.below states symbols
    ++ (shards_text task.form cover.counts.shards ++ (counts_text cover.counts
    ++ (undefined_text task.below ++ (halts_text task.form cover.counts ++ (open_text cover.counts
    ++ place_text (option_map (λ one. one.items) task.sought) cover.counts.place)))))
found_text task cover (Stops stop) = codes "line " ++ (decimal stop.line ++ (codes ": "
    ++ why_text task.form cover.asked.items cover.given.items stop.why))

-- the line for a result, with its newline
abbrev pub report_text : Task → Cover → List ℕ
report_text task cover = found_text task cover cover.found ++ 10 ∷ []

-- the refusal of the text of an option, at a column
abbrev pub refusal_text : List ℕ → ℕ → List ℕ
refusal_text option column = codes "cover: the text of --" ++ (option
    ++ (codes " is no machine: refused at column " ++ decimal column))
