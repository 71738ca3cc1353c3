-- What is left of a walk, frame by frame.
use Rattle.std.proofs.Common.{◌≡◌, ℕ, zero, suc, ◌+◌, ◌-◌, ◌<◌, ◌≤◌, Bool, List, [], ◌∷◌, ◌++◌, length}
use Rattle.std.proofs.Common.{get_or, set}
use Rattle.std.proofs.Common.{drop, map, min, take, refl, ap, sym, subst, ◌∙◌, append_assoc, arith}
use Rattle.std.proofs.Common.{length-append, add-one, ◌↔◌, IsTrue}
use Rattle.std.proofs.Math.Seq.{drop-cons}
use Rattle.std.proofs.lemmas.List.{append-nil, drop_all, get_or_default, length-take-le, set_at, take_all}
use Rattle.std.proofs.lemmas.List.{take_more}
use Rattle.bb_machine.specs.declared.entry.Entry.TheVariants.{Undefined}
use Rattle.bb_machine.specs.declared.entry.Next.TheVariants.{State}
use Rattle.bb_machine.specs.Machine.{Table, IsMachine}
use Rattle.laws_of_verdicts.specs.Closed.{with_entry}
use Rattle.laws_of_verdicts.specs.NormalForm.{IsEmpty}
use Rattle.laws_of_verdicts.specs.Walk.{FillsUndefinedBy, entries_of}
use Rattle.bb_cover.specs.declared.asked.Asked.{Asked}
use Rattle.bb_cover.specs.declared.undefined.UndefinedEntry.{UndefinedEntry}
use Rattle.bb_cover.specs.declared.walk.Frame.{Frame}
use Rattle.bb_cover.specs.declared.walk.TheConstants.{MAX_FRAMES}
use Rattle.bb_cover.specs.Asked.{IsAsking, entries}
use Rattle.bb_cover.specs.UndefinedEntries.{IsUndefinedOf, undefined_entries_of}
use Rattle.bb_cover.specs.Left.{AreFrames, IsFirst, IsFrame, IsStack, left, left_of}
use Rattle.bb_cover.proofs.Asks.{few_entries, leads_on, some_entries}
use Rattle.bb_cover.proofs.Tables.{filled_undefined_entries}

pub left-push : (frames : List Frame) (frame : Frame)
    → left (frames ++ frame ∷ []) ≡ left_of frame ++ left frames
left-push [] frame = sym (append-nil (left_of frame))
left-push (f ∷ frames) frame =
    ap (λ l. l ++ left_of f) (left-push frames frame) ∙ append_assoc (left_of frame) (left frames) (left_of f)

pub frames-push : (n : ℕ) (frames : List Frame) (frame : Frame) → AreFrames n frames
    → IsFrame (n + length frames) frame → AreFrames n (frames ++ frame ∷ [])
frames-push n [] frame are is = (subst (λ k. IsFrame k frame) (omega arith) is, tt)
frames-push n (f ∷ frames) frame are is = (
  are.0,
  frames-push (suc n) frames frame are.1 (subst (λ k. IsFrame k frame) (omega arith) is),
)

pub frames-front : (n : ℕ) (frames : List Frame) (frame : Frame) → AreFrames n (frames ++ frame ∷ [])
    → AreFrames n frames
frames-front n [] frame are = tt
frames-front n (f ∷ frames) frame are = (are.0, frames-front (suc n) frames frame are.1)

pub frame_at : (n : ℕ) (frames : List Frame) (i : ℕ) (d : Frame) → AreFrames n frames → i < length frames
    → IsFrame (n + i) (get_or frames i d)
frame_at n [] i d are inside = absurd (omega (arith, inside))
frame_at n (f ∷ frames) zero d are inside = subst (λ k. IsFrame k f) (omega arith) are.0
frame_at n (f ∷ frames) (suc i) d are inside =
    subst (λ k. IsFrame k (get_or frames i d)) (omega arith)
    (frame_at (suc n) frames i d are.1 (omega (arith, inside)))

pub split_last : (frames : List Frame) (d : Frame) → 0 < length frames
    → frames ≡ take (length frames - 1) frames ++ get_or frames (length frames - 1) d ∷ []
split_last frames d some =
    sym (take_all (length frames) frames (omega arith))
    ∙ ap (λ n. take n frames) (omega (arith, some))
    ∙ take_more frames (length frames - 1) d (omega (arith, some))

-- the machine that comes next at a frame
abbrev pub next_of : Frame → Table
next_of frame = with_entry frame.machine frame.undefined.state frame.undefined.symbol
    (get_or (entries frame.asked) frame.next Undefined)

pub left_of-next : (frame : Frame) (n : ℕ) → IsFrame n frame
    → left_of frame ≡ next_of frame ∷ map (with_entry frame.machine frame.undefined.state frame.undefined.symbol)
    (drop (frame.next + 1) (entries frame.asked))
left_of-next frame n is =
    ap (map (with_entry frame.machine frame.undefined.state frame.undefined.symbol))
    (drop-cons (entries frame.asked) frame.next Undefined is.some
    ∙ ap (λ k. get_or (entries frame.asked) frame.next Undefined ∷ drop k (entries frame.asked))
    (sym (add-one frame.next)))

length-append_right : {X : Type 0} (xs ys : List X) → xs ++ ys ≡ [] → length ys ≡ 0
length-append_right xs ys none = omega (arith, ap length none, length-append xs ys)

pub left_nothing : (n : ℕ) (frames : List Frame) → AreFrames n frames → left frames ≡ [] → frames ≡ []
left_nothing n [] are none = refl
left_nothing n (f ∷ frames) are none =
    let more = ap length (left_of-next f n are.0) in
    absurd (omega (arith, length-append_right (left frames) (left_of f) none, more))

-- the next machine has one `---` less than the frame's
next_undefined_entries : (frame : Frame) (n : ℕ) → IsFrame n frame → undefined_entries_of (next_of frame) + 1 ≡ undefined_entries_of frame.machine
next_undefined_entries frame n is =
    let leads = leads_on frame.asked.is_root frame.asked.states frame.asked.symbols frame.next is.some in
    let less = filled_undefined_entries frame.machine is.machine frame.undefined.state frame.undefined.symbol leads.write leads.move
    (State leads.to) is.undefined.below is.undefined.inside is.undefined.is_undefined in
    ap (λ e. undefined_entries_of (with_entry frame.machine frame.undefined.state frame.undefined.symbol e) + 1) leads.is ∙ less

-- the first that is left, and what is left behind it
pub record FirstLeft (frames : List Frame) (frame : Frame) : Type 0 where
  pub frame_is : IsFrame (length frames - 1) frame
  pub front : IsStack (take (length frames - 1) frames)
  pub long : length (take (length frames - 1) frames) ≡ length frames - 1
  pub room : undefined_entries_of (next_of frame) + length frames ≤ MAX_FRAMES
  pub is : left frames ≡ next_of frame ∷ (map (with_entry frame.machine frame.undefined.state frame.undefined.symbol)
      (drop (frame.next + 1) (entries frame.asked)) ++ left (take (length frames - 1) frames))

pub first_left : (frames : List Frame) (d : Frame) → IsStack frames → 0 < length frames
    → FirstLeft frames (get_or frames (length frames - 1) d)
first_left frames d stack some =
    let last = get_or frames (length frames - 1) d in
    let front = take (length frames - 1) frames in
    let parts = split_last frames d some in
    let is = frame_at zero frames (length frames - 1) d stack (omega (arith, some)) in
    let is_too : IsFrame (length frames - 1) last = subst (λ k. IsFrame k last) (omega arith) is in
    let room = is_too.room in
    record {
      frame_is = is_too;
      front = frames-front zero front last (subst (AreFrames zero) parts stack);
      long = length-take-le (length frames - 1) frames (omega arith);
      room = omega (arith, next_undefined_entries last (length frames - 1) is_too, room, some);
      is = ap left parts ∙ left-push front last
          ∙ ap (λ l. l ++ left front) (left_of-next last (length frames - 1) is_too);
    }

-- passing it
pub record Passes (old new : List Frame) : Type 0 where
  pub first : Table
  pub left_was : left old ≡ first ∷ left new
  pub room : undefined_entries_of first + length new ≤ MAX_FRAMES
  pub stack : IsStack new

pub passes_within : (frames : List Frame) (d : Frame) → IsStack frames → 0 < length frames
    → (get_or frames (length frames - 1) d).next + 1
    < length (entries (get_or frames (length frames - 1) d).asked)
    → (new : List Frame)
    → new ≡ set frames (length frames - 1) (record (get_or frames (length frames - 1) d) {
      next = (get_or frames (length frames - 1) d).next + 1;
    })
    → Passes frames new
passes_within frames d stack some fits new is = by (get_or frames (length frames - 1) d) refl where
  by : (last : Frame) → get_or frames (length frames - 1) d ≡ last → Passes frames new
  by last same =
      let first : FirstLeft frames last = subst (FirstLeft frames) same (first_left frames d stack some) in
      let front = take (length frames - 1) frames in
      let turned : Frame = record last { next = last.next + 1 } in
      let long = first.long in
      let now : new ≡ front ++ turned ∷ [] =
      is ∙ ap (λ (f : Frame). set frames (length frames - 1) (record f { next = f.next + 1 })) same
      ∙ ap (λ l. set l (length frames - 1) turned) (split_last frames d some)
      ∙ set_at front (get_or frames (length frames - 1) d) [] turned (length frames - 1) long in
      let frame_is = first.frame_is in
      let room = first.room in
      record {
        first = next_of last;
        left_was = first.is ∙ sym (ap (λ l. next_of last ∷ l) (ap left now ∙ left-push front turned));
        room = omega (arith, room, ap length now ∙ length-append front (turned ∷ []), long, some);
        stack = subst IsStack (sym now) (frames-push zero front turned first.front (record {
          machine = frame_is.machine;
          undefined = frame_is.undefined;
          few = frame_is.few;
          few_symbols = frame_is.few_symbols;
          some = subst (λ (f : Frame). f.next + 1 < length (entries f.asked)) same fits;
          room = let below = frame_is.room in omega (arith, below, long);
        }));
      }

pub passes_last : (frames : List Frame) (d : Frame) → IsStack frames → 0 < length frames
    → length (entries (get_or frames (length frames - 1) d).asked)
    ≤ (get_or frames (length frames - 1) d).next + 1
    → (new : List Frame) → new ≡ take (length frames - 1) frames → Passes frames new
passes_last frames d stack some ends new is =
    let last = get_or frames (length frames - 1) d in
    let first = first_left frames d stack some in
    let room = first.room in
    record {
      first = next_of last;
      left_was = first.is
          ∙ ap (λ l. next_of last ∷ (map (with_entry last.machine last.undefined.state last.undefined.symbol) l
          ++ left (take (length frames - 1) frames)))
          (drop_all (last.next + 1) (entries last.asked) ends)
          ∙ sym (ap (λ l. next_of last ∷ left l) is);
      room = omega (arith, room, ap length is, first.long, some);
      stack = subst IsStack (sym is) first.front;
    }

-- going on from a machine

pub fills : (table : Table) (is_root : Bool) (asked : Asked) (undefined : UndefinedEntry) → IsAsking table is_root asked
    → (IsTrue is_root ↔ IsEmpty table)
    → FillsUndefinedBy table undefined.state undefined.symbol (map (with_entry table undefined.state undefined.symbol) (entries asked))
fills table is_root asked undefined asks root = record {
  states = asks.used_states;
  symbols = asks.used_symbols;
  uses = asks.uses;
  is_root = is_root;
  root = root;
  machines = ap (map (with_entry table undefined.state undefined.symbol))
      (ap (λ b. entries_of b asked.states asked.symbols) asks.root
      ∙ ap (λ n. entries_of is_root n asked.symbols) asks.states
      ∙ ap (entries_of is_root (min (length table) (asks.used_states + 1))) asks.symbols);
}

pub new_frame : (table : Table) → IsMachine table → (is_root : Bool) (asked : Asked) (undefined : UndefinedEntry) (n : ℕ)
    → IsAsking table is_root asked → IsUndefinedOf table undefined → undefined_entries_of table + n ≤ MAX_FRAMES
    → IsFrame n (record { machine = table; undefined = undefined; asked = asked; next = 0 })
new_frame table machine is_root asked undefined n asks is room =
    let some = asks.uses.first.some_state in
    let few = machine.states in
    record {
      machine = machine;
      undefined = is;
      few = omega (arith, asks.states, few);
      few_symbols = omega (arith, asks.symbols, machine.symbols);
      some = some_entries asked.is_root asked.states asked.symbols (omega (arith, asks.states, some))
          (omega (arith, asks.symbols, asks.uses.first.some_symbol, is.inside));
      room = room;
    }

-- by what a read of the last frame gives

pub passes_by : (frames : List Frame) (i : ℕ) → i ≡ length frames - 1 → IsStack frames → 0 < length frames
    → (a b c : Frame) → a ≡ get_or frames i a → b ≡ get_or frames i b → c ≡ get_or frames i c
    → a.next + 1 < length (entries b.asked)
    → Passes frames (set frames i (record c { next = a.next + 1 }))
passes_by frames i at stack some a b c a_is b_is c_is fits =
    let inside : i < length frames = omega (arith, at, some) in
    let last = get_or frames (length frames - 1) c in
    let here : get_or frames i c ≡ last = ap (λ n. get_or frames n c) at in
    let one : a ≡ last = a_is ∙ get_or_default frames i a c inside ∙ here in
    let two : b ≡ last = b_is ∙ get_or_default frames i b c inside ∙ here in
    let three : c ≡ last = c_is ∙ here in
    passes_within frames c stack some
    (subst (λ (f : Frame). last.next + 1 < length (entries f.asked)) two
    (subst (λ (f : Frame). f.next + 1 < length (entries b.asked)) one fits))
    (set frames i (record c { next = a.next + 1 }))
    (ap (λ n. set frames n (record c { next = a.next + 1 })) at
    ∙ ap (λ (f : Frame). set frames (length frames - 1) (record f { next = a.next + 1 })) three
    ∙ ap (λ (f : Frame). set frames (length frames - 1) (record last { next = f.next + 1 })) one)

pub passes_end : (frames : List Frame) (i : ℕ) → i ≡ length frames - 1 → IsStack frames → 0 < length frames
    → (a b : Frame) → a ≡ get_or frames i a → b ≡ get_or frames i b
    → length (entries b.asked) ≤ a.next + 1 → (new : List Frame) → new ≡ take (length frames - 1) frames
    → Passes frames new
passes_end frames i at stack some a b a_is b_is ends new is =
    let inside : i < length frames = omega (arith, at, some) in
    let last = get_or frames (length frames - 1) a in
    let here : get_or frames i a ≡ last = ap (λ n. get_or frames n a) at in
    let one : a ≡ last = a_is ∙ here in
    let two : b ≡ last = b_is ∙ get_or_default frames i b a inside ∙ here in
    passes_last frames a stack some
    (subst (λ (f : Frame). length (entries f.asked) ≤ last.next + 1) two
    (subst (λ (f : Frame). length (entries b.asked) ≤ f.next + 1) one ends))
    new is

pub read_frame : (frames : List Frame) (i : ℕ) → IsStack frames → i < length frames → (a : Frame)
    → a ≡ get_or frames i a → IsFrame i a
read_frame frames i stack inside a is =
    subst (IsFrame i) (sym is)
    (subst (λ k. IsFrame k (get_or frames i a)) (omega arith) (frame_at zero frames i a stack inside))

pub few_left : (n : ℕ) (frame : Frame) → IsFrame n frame → frame.next < 1000
few_left n frame is =
    let few = is.few in
    let few_too = is.few_symbols in
    omega (arith, is.some, few_entries frame.asked.is_root frame.asked.states frame.asked.symbols few few_too)

-- what is left, from the last frame on
pub head_of : (frames : List Frame) (i : ℕ) → i ≡ length frames - 1 → IsStack frames → 0 < length frames
    → (a : Frame) → a ≡ get_or frames i a → IsFirst (next_of a) (left frames)
head_of frames i at stack some a is =
    let last = get_or frames (length frames - 1) a in
    let one : a ≡ last = is ∙ ap (λ n. get_or frames n a) at in
    let first = first_left frames a stack some in
    subst (λ f. IsFirst (next_of f) (left frames)) (sym one) (_, first.is)

pub first_is_one : (a b : Table) (tables : List Table) → IsFirst a tables → IsFirst b tables → a ≡ b
first_is_one a b tables one two = cc (one.1, two.1)

-- with fewer frames before it
pub as_first : (n : ℕ) (frame : Frame) → IsFrame n frame → IsFrame 0 frame
as_first n frame is = record {
  machine = is.machine;
  undefined = is.undefined;
  few = is.few;
  few_symbols = is.few_symbols;
  some = is.some;
  room = let room = is.room in omega (arith, room);
}
