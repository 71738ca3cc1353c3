-- A line is that of one item.
use Rattle.std.proofs.Common.{◌≡◌, ℕ, ◌<◌, ◌^◌, List, ◌∷◌, ◌++◌, codes, decimal, sym, ◌∙◌, arith}
use Rattle.std.proofs.lemmas.Fmt.{decimal_injective}
use Rattle.std.proofs.lemmas.List.{append_cancel_left}
use Rattle.bb_machine.specs.Machine.{Table, text}
use Rattle.bb_machine.proofs.Facts.{text_unique}
use Rattle.bb_cert.specs.declared.verdict.Side.TheVariants.{L, R}
use Rattle.bb_cert.specs.declared.verdict.Why.TheVariants.{Steps, Cells}
use Rattle.bb_cert.specs.declared.verdict.Verdict.{Verdict}
use Rattle.bb_cert.specs.declared.verdict.Verdict.TheVariants.{Halt, Cycler, Translated, Backward, Undecided}
use Rattle.bb_cert.specs.declared.verdict.reader.Line.TheVariants as said
use Rattle.bb_cert.specs.verdict.Line.{verdict_text}
use Rattle.bb_cert.proofs.Facts.{line_unique}
use Rattle.bb_cover.specs.declared.content.Content.{Content}
use Rattle.bb_cover.specs.declared.content.Content.TheVariants.{Claim, Shard}
use Rattle.bb_cover.specs.declared.content.ShardCounts.{ShardCounts}
use Rattle.bb_cover.specs.declared.task.Form.{Form}
use Rattle.bb_cover.specs.Content.{HasCounts, IsItemLine, IsShardLine, Item, shard_text}
use Rattle.bb_cover.proofs.Spaces.{HasNoSpace, decimal_no_space, same_split, text_no_space}

-- the counts are 64-bit numbers

abbrev pub Fits : ShardCounts → Type 0
Fits shard = (shard.lines < 2 ^ 64) × (shard.undecided < 2 ^ 64) × (shard.wide < 2 ^ 64)

pub fits_all : (shard : ShardCounts) → HasCounts shard → Fits shard
fits_all shard has =
    let few = has.0 in
    let undecided = has.1.undecided in
    let wide = has.1.wide in
    (few, omega (arith, few, undecided), omega (arith, few, undecided, wide))

-- the words of a shard, split at their first three spaces

abbrev pub two_counts : ShardCounts → List ℕ → List ℕ
two_counts shard digest = decimal shard.undecided ++ (32 ∷ (decimal shard.wide ++ (32 ∷ digest)))

pub first_split : (shard : ShardCounts) (digest prefix rest : List ℕ) → Fits shard → HasNoSpace prefix
    → decimal shard.lines ++ (32 ∷ two_counts shard digest) ≡ prefix ++ 32 ∷ rest
    → (decimal shard.lines ≡ prefix) × (two_counts shard digest ≡ rest)
first_split shard digest prefix rest few none is =
    same_split (decimal shard.lines) prefix (two_counts shard digest) rest
    (decimal_no_space shard.lines few.0) none is

pub second_split : (shard : ShardCounts) (digest prefix rest : List ℕ) → Fits shard → HasNoSpace prefix
    → two_counts shard digest ≡ prefix ++ 32 ∷ rest
    → (decimal shard.undecided ≡ prefix) × (decimal shard.wide ++ (32 ∷ digest) ≡ rest)
second_split shard digest prefix rest few none is =
    same_split (decimal shard.undecided) prefix (decimal shard.wide ++ (32 ∷ digest)) rest
    (decimal_no_space shard.undecided few.1) none is

pub third_split : (shard : ShardCounts) (digest prefix rest : List ℕ) → Fits shard → HasNoSpace prefix
    → decimal shard.wide ++ (32 ∷ digest) ≡ prefix ++ 32 ∷ rest
    → (decimal shard.wide ≡ prefix) × (digest ≡ rest)
third_split shard digest prefix rest few none is =
    same_split (decimal shard.wide) prefix digest rest (decimal_no_space shard.wide few.2) none is

-- what stands behind the word, behind the first number, and behind the second

module _ (shard : ShardCounts) (digest words counts : List ℕ) (few : Fits shard)
    (prefix : words ≡ codes "below " ++ counts) (is : shard_text shard digest ≡ words) where
  pub behind_below : decimal shard.lines ++ (32 ∷ two_counts shard digest) ≡ counts
  behind_below = append_cancel_left (codes "below ") (decimal shard.lines ++ (32 ∷ two_counts shard digest))
      counts (is ∙ prefix)

  module _ (n : ℕ) (more : List ℕ) (fits : n < 2 ^ 64) (parts : decimal n ++ 32 ∷ more ≡ counts) where
    pub behind_lines : two_counts shard digest ≡ more
    behind_lines = (first_split shard digest (decimal n) more few (decimal_no_space n fits)
        (behind_below ∙ sym parts)).1

    module _ (k : ℕ) (last : List ℕ) (fits_too : k < 2 ^ 64) (parts_too : decimal k ++ 32 ∷ last ≡ more) where
      pub behind_undecided : decimal shard.wide ++ (32 ∷ digest) ≡ last
      behind_undecided = (second_split shard digest (decimal k) last few (decimal_no_space k fits_too)
          (behind_lines ∙ sym parts_too)).1

      pub behind_wide : (w : ℕ) (rest : List ℕ) → w < 2 ^ 64 → decimal w ++ 32 ∷ rest ≡ last → digest ≡ rest
      behind_wide w rest fits_last parts_last =
          (third_split shard digest (decimal w) rest few (decimal_no_space w fits_last)
          (behind_undecided ∙ sym parts_last)).1

-- a line of a shard, split at its first space
pub line_split : (table : Table) (shard : ShardCounts) (bytes : List ℕ) (is : IsShardLine table shard bytes)
    → (prefix rest : List ℕ) → HasNoSpace prefix → prefix ++ 32 ∷ rest ≡ bytes
    → (text table ≡ prefix) × (shard_text shard is.digest ≡ rest)
line_split table shard bytes is prefix rest none parts =
    same_split (text table) prefix (shard_text shard is.digest) rest (text_no_space table) none
    (is.whole ∙ sym parts)

pub counts_apart : (a b : ShardCounts) (x y : List ℕ) → Fits a → Fits b → shard_text a x ≡ shard_text b y
    → a ≡ b
counts_apart a b x y few few_too is =
    let numbers : decimal a.lines ++ (32 ∷ two_counts a x) ≡ decimal b.lines ++ (32 ∷ two_counts b y) = cc in
    let first = first_split a x (decimal b.lines) (two_counts b y) few (decimal_no_space b.lines few_too.0) numbers
    in
    let second = second_split a x (decimal b.undecided) (decimal b.wide ++ (32 ∷ y)) few
    (decimal_no_space b.undecided few_too.1) first.1 in
    let third = third_split a x (decimal b.wide) y few (decimal_no_space b.wide few_too.2) second.1 in
    let lines = decimal_injective a.lines b.lines few.0 few_too.0 first.0 in
    let undecided = decimal_injective a.undecided b.undecided few.1 few_too.1 second.0 in
    let wide = decimal_injective a.wide b.wide few.2 few_too.2 third.0 in
    λ i. record { lines = lines i; undecided = undecided i; wide = wide i }

-- no line is that of a verdict and of a shard
words_apart : (verdict : Verdict) (table table_too : Table) (shard : ShardCounts) (digest : List ℕ)
    → text table ++ verdict_text verdict ≡ text table_too ++ (32 ∷ shard_text shard digest) → ⊥
words_apart verdict table table_too shard digest is = by verdict is
  where
    behind : (words : List ℕ) → text table ++ 32 ∷ words ≡ text table_too ++ (32 ∷ shard_text shard digest)
        → words ≡ shard_text shard digest
    behind words same = (same_split (text table) (text table_too) words (shard_text shard digest)
        (text_no_space table) (text_no_space table_too) same).1

    by : (v : Verdict) → text table ++ verdict_text v ≡ text table_too ++ (32 ∷ shard_text shard digest) → ⊥
    by (Halt steps score) same =
        let words = behind _ same in let first : ◌≡◌ {A = ℕ} 104 98 = cc in omega arith
    by (Cycler first second) same =
        let words = behind _ same in let first : ◌≡◌ {A = ℕ} 99 98 = cc in omega arith
    by (Translated L first second extent) same =
        let words = behind _ same in let first : ◌≡◌ {A = ℕ} 116 98 = cc in omega arith
    by (Translated R first second extent) same =
        let words = behind _ same in let first : ◌≡◌ {A = ℕ} 116 98 = cc in omega arith
    by (Backward levels nodes) same =
        let words = behind _ same in let second : ◌≡◌ {A = ℕ} 97 101 = cc in omega arith
    by (Undecided Steps) same =
        let words = behind _ same in let first : ◌≡◌ {A = ℕ} 117 98 = cc in omega arith
    by (Undecided Cells) same =
        let words = behind _ same in let first : ◌≡◌ {A = ℕ} 117 98 = cc in omega arith

claims_apart : (s t : Table) (v w : Verdict) → said.Claim s v ≡ said.Claim t w
    → ◌≡◌ {A = Item} (record { table = s; content = Claim v }) (record { table = t; content = Claim w })
claims_apart s t v w e =
    let tables : s ≡ t = cc in
    let verdicts : v ≡ w = cc in
    λ i. record { table = tables i; content = Claim (verdicts i) }

shards_apart : (s t : Table) (a b : ShardCounts) (bytes : List ℕ) → IsShardLine s a bytes → IsShardLine t b bytes
    → ◌≡◌ {A = Item} (record { table = s; content = Shard a }) (record { table = t; content = Shard b })
shards_apart s t a b bytes one two =
    let split = line_split s a bytes one (text t) (shard_text b two.digest) (text_no_space t) two.whole in
    let tables = text_unique s t one.machine two.machine split.0 in
    let counts = counts_apart a b one.digest two.digest (fits_all a one.numbers)
    (fits_all b two.numbers) split.1 in
    λ i. record { table = tables i; content = Shard (counts i) }

pub one_item : (form : Form) (bytes : List ℕ) (a b : Item) → IsItemLine form a bytes → IsItemLine form b bytes
    → a ≡ b
one_item form bytes a b one two = by a.content b.content one two
  where
    by : (x y : Content) → IsItemLine form (record { table = a.table; content = x }) bytes
        → IsItemLine form (record { table = b.table; content = y }) bytes
        → ◌≡◌ {A = Item} (record { table = a.table; content = x }) (record { table = b.table; content = y })
    by (Claim v) (Claim w) p q = claims_apart a.table b.table v w
        (line_unique (said.Claim a.table v) (said.Claim b.table w) bytes p q)
    by (Claim v) (Shard y) p q =
        absurd (words_apart v a.table b.table y q.1.digest (p.2 ∙ sym q.1.whole))
    by (Shard x) (Claim w) p q =
        absurd (words_apart w b.table a.table x p.1.digest (q.2 ∙ sym p.1.whole))
    by (Shard x) (Shard y) p q = shards_apart a.table b.table x y bytes p.1 q.1
