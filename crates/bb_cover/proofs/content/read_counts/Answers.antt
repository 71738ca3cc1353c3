use Rattle.std.proofs.Common.{◌≡◌, ◌∷◌, ◌++◌, List, ℕ, Some, codes, decimal, ap, sym, subst, ◌∙◌}
use Rattle.std.proofs.lemmas.Bool.Decides.{Decides-eqb}
use Rattle.std.proofs.lemmas.Slice.Eq.{strip_prefix_is}
use Rattle.bb_cover.specs.Content.{ArePossible, IsDigest, shard_text}
use Rattle.bb_cover.proofs.ShardLines.{behind_lines, behind_undecided, behind_wide, counts_apart, fits_all}
use Rattle.bb_cover.proofs.content.read_counts.Goals as goal
use Rattle.bb_cover.proofs.content.read_counts.Goals.{In_ok-counts}

-- the words begin with the word
below : (c : In_ok-counts) → c.args.words.now ≡ codes "below " ++ c.in_ok-counts.counts.now
below c = strip_prefix_is Decides-eqb c.args.words.now c.as_slice.result.now (Some c.in_ok-counts.counts)
    c.in_ok-counts.ensures.cases ∙ ap (λ (x : List ℕ). x ++ c.in_ok-counts.counts.now) c.as_slice.ensures

pub returns-in_err-undecided : goal.returns-in_err-undecided
returns-in_err-undecided c = rw c.from_residual-in_err-undecided.ensures (λ shard digest few hex is.
    c.in_err-undecided.ensures shard.undecided (decimal shard.wide ++ (32 ∷ digest)) (fits_all shard few).1
    (behind_lines shard digest c.args.words.now c.in_ok-counts.counts.now (fits_all shard few)
    (below (goal.at.returns-in_err-undecided c).In_ok-counts) is
    c.in_ok-lines.lines c.in_ok-lines.counts.now c.in_ok-lines.ensures.0 c.in_ok-lines.ensures.1))

pub returns-in_err-wide : goal.returns-in_err-wide
returns-in_err-wide c = rw c.from_residual-in_err-wide.ensures (λ shard digest few hex is.
    c.in_err-wide.ensures shard.wide digest (fits_all shard few).2
    (behind_undecided shard digest c.args.words.now c.in_ok-counts.counts.now (fits_all shard few)
    (below (goal.at.returns-in_err-wide c).In_ok-counts) is
    c.in_ok-lines.lines c.in_ok-lines.counts.now c.in_ok-lines.ensures.0 c.in_ok-lines.ensures.1
    c.in_ok-undecided.undecided c.in_ok-undecided.counts.now c.in_ok-undecided.ensures.0
    c.in_ok-undecided.ensures.1))

pub returns-then-not-is_digest : goal.returns-then-not-is_digest
returns-then-not-is_digest c = λ shard digest few hex is.
    let same = behind_wide shard digest c.args.words.now c.in_ok-counts.counts.now (fits_all shard few)
    (below (goal.at.returns-then-not-is_digest c).In_ok-counts) is
    c.in_ok-lines.lines c.in_ok-lines.counts.now c.in_ok-lines.ensures.0 c.in_ok-lines.ensures.1
    c.in_ok-undecided.undecided c.in_ok-undecided.counts.now c.in_ok-undecided.ensures.0
    c.in_ok-undecided.ensures.1 c.in_ok-wide.wide c.in_ok-wide.digest.now c.in_ok-wide.ensures.0
    c.in_ok-wide.ensures.1 in
    let found = c.is_digest.ensures.1 (subst IsDigest same hex) in
    let none = c.if-not-is_digest.true in
    cc

-- the three numbers and the digest, behind the word
same_words : (lines undecided wide : ℕ) (counts more last digest words : List ℕ)
    → words ≡ codes "below " ++ counts → decimal lines ++ (32 ∷ more) ≡ counts
    → decimal undecided ++ (32 ∷ last) ≡ more → decimal wide ++ (32 ∷ digest) ≡ last
    → shard_text (record { lines = lines; undecided = undecided; wide = wide }) digest ≡ words
same_words lines undecided wide counts more last digest words prefix one two three =
    ap (λ (x : List ℕ). codes "below " ++ (decimal lines ++ (32 ∷ (decimal undecided ++ (32 ∷ x))))) three
    ∙ ap (λ (x : List ℕ). codes "below " ++ (decimal lines ++ (32 ∷ x))) two
    ∙ ap (λ (x : List ℕ). codes "below " ++ x) one
    ∙ sym prefix

pub returns-then-not-are_possible : goal.returns-then-not-are_possible
returns-then-not-are_possible c = λ shard digest few hex is.
    let words = same_words c.in_ok-lines.lines c.in_ok-undecided.undecided c.in_ok-wide.wide
    c.in_ok-counts.counts.now c.in_ok-lines.counts.now c.in_ok-undecided.counts.now c.in_ok-wide.digest.now
    c.args.words.now (below (goal.at.returns-then-not-are_possible c).In_ok-counts) c.in_ok-lines.ensures.1
    c.in_ok-undecided.ensures.1 c.in_ok-wide.ensures.1 in
    let same = counts_apart shard _ digest c.in_ok-wide.digest.now (fits_all shard few)
    (c.in_ok-lines.ensures.0, c.in_ok-undecided.ensures.0, c.in_ok-wide.ensures.0) (is ∙ sym words) in
    let found = c.are_possible.ensures.1 (subst ArePossible same few.1) in
    let none = c.if-not-are_possible.true in
    cc

pub returns : goal.returns
returns c =
    let hex : IsDigest c.in_ok-wide.digest.now = c.is_digest.ensures.0 c.if-not-is_digest.false in
    let possible = c.are_possible.ensures.0 c.if-not-are_possible.false in (
      (c.in_ok-lines.ensures.0, possible),
      (
        c.in_ok-wide.digest.now,
        hex,
        same_words c.in_ok-lines.lines c.in_ok-undecided.undecided c.in_ok-wide.wide
            c.in_ok-counts.counts.now c.in_ok-lines.counts.now c.in_ok-undecided.counts.now
            c.in_ok-wide.digest.now c.args.words.now (below (goal.at.returns c).In_ok-counts)
            c.in_ok-lines.ensures.1 c.in_ok-undecided.ensures.1 c.in_ok-wide.ensures.1,
      ),
    )
