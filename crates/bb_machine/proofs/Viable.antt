-- What was read can be completed to a machine's text, and where it can't be.
use Rattle.std.proofs.Common.{◌≡◌, ℕ, ◌+◌, ◌-◌, ◌<◌, List, [], ◌∷◌, ◌++◌, length, replicate, refl, ◌∙◌}
use Rattle.std.proofs.Common.{append_assoc, arith}
use Rattle.std.proofs.lemmas.List.{append-nil, length-append, length-replicate}
use Rattle.std.proofs.lemmas.List.Concat.{flat_map-append}
use Rattle.std.specs.List.{AllByRecursion}
use Rattle.bb_machine.specs.declared.entry.Entry.{Entry}
use Rattle.bb_machine.specs.declared.entry.Entry.TheVariants.{Undefined}
use Rattle.bb_machine.specs.Entry.{entry_text, IsEntryOf}
use Rattle.bb_machine.specs.Machine.{IsGroup, group_text}
use Rattle.bb_machine.specs.Column.{IsViableWithin}
use Rattle.bb_machine.specs.inside.Draft.{Begun, begun_text, symbols_limit, IsBegunWithin, IsWholeWithin}
use Rattle.bb_machine.proofs.Texts.{tail_text, text_on}
use Rattle.bb_machine.proofs.Groups.{every-append, every-push, every-replicate, symbols_fixed, machine_by}

-- a prefix of a viable prefix is viable
pub viable_prefix : (s k : ℕ) (xs ys : List ℕ) → IsViableWithin s k (xs ++ ys) → IsViableWithin s k xs
viable_prefix s k xs ys v = (v.0, v.1, (ys ++ v.2.0, v.2.1 ∙ append_assoc xs ys v.2.0))

module _ (s k : ℕ) (b : Begun) (begun : IsBegunWithin s k b) where
  -- what was read, with `---` for all that is missing
  pub viable_begun : IsViableWithin s k (begun_text b)
  viable_begun =
      let m : ℕ = symbols_limit k b.groups in
      let missing : List Entry = replicate (m - length b.group) Undefined in
      let blank : List Entry = replicate m Undefined in
      let rest : List (List Entry) = replicate (s - (length b.groups + 1)) blank in
      let gs : List (List Entry) = b.groups ++ (b.group ++ missing) ∷ rest in
      let group_length : length (b.group ++ missing) ≡ m = omega (
        arith,
        begun.fits,
        length-append b.group missing,
        length-replicate (m - length b.group) Undefined,
      ) in
      let count : length gs ≡ s = omega (
        arith,
        begun.room,
        length-append b.groups ((b.group ++ missing) ∷ rest),
        length-replicate (s - (length b.groups + 1)) blank,
      ) in
      let blanks : IsGroup s m blank = record {
        full = length-replicate m Undefined;
        entries = every-replicate (IsEntryOf s m) m Undefined tt;
      } in
      let last : IsGroup s m (b.group ++ missing) = record {
        full = group_length;
        entries = every-append (IsEntryOf s m) b.group missing begun.entries
            (every-replicate (IsEntryOf s m) (m - length b.group) Undefined tt);
      } in
      let all : AllByRecursion (IsGroup s m) gs =
      every-append (IsGroup s m) b.groups ((b.group ++ missing) ∷ rest) begun.groups
      (last, every-replicate (IsGroup s m) (s - (length b.groups + 1)) blank blanks) in (
        gs,
        machine_by s k m s gs (omega arith) (omega arith) begun.two_symbols begun.symbols count
            (symbols_fixed k b.groups (b.group ++ missing) rest group_length) all,
        (group_text missing ++ tail_text rest, text_on b missing rest),
      )

  pub begun_push : (e : Entry) → length b.group < symbols_limit k b.groups
      → IsEntryOf s (symbols_limit k b.groups) e
      → IsBegunWithin s k (record { groups = b.groups; group = b.group ++ e ∷ [] })
  begun_push e room is =
      record {
        room = begun.room;
        two_symbols = begun.two_symbols;
        symbols = begun.symbols;
        groups = begun.groups;
        fits = omega (arith, length-append b.group (e ∷ []));
        entries = every-push (IsEntryOf s (symbols_limit k b.groups)) b.group e begun.entries is;
      }

pub begun_text-push : (b : Begun) (e : Entry)
    → begun_text (record { groups = b.groups; group = b.group ++ e ∷ [] }) ≡ begun_text b ++ entry_text e
begun_text-push b e =
    rw (flat_map-append entry_text b.group (e ∷ []), append-nil (entry_text e)) (simp append_assoc)

-- after a `_`
pub begun_close : (s k : ℕ) (cs : List (List Entry)) (g : List Entry)
    → IsBegunWithin s k (record { groups = cs; group = g }) → length cs + 1 < s → IsWholeWithin s cs g
    → IsBegunWithin s k (record { groups = cs ++ g ∷ []; group = [] })
begun_close s k [] g begun room whole =
    record {
      room = room;
      two_symbols = whole.0;
      symbols = begun.fits;
      groups = (record { full = refl; entries = whole.1 }, tt);
      fits = omega arith;
      entries = tt;
    }
begun_close s k (c ∷ cs) g begun room whole =
    record {
      room = omega (arith, length-append cs (g ∷ []));
      two_symbols = begun.two_symbols;
      symbols = begun.symbols;
      groups = every-push (IsGroup s (length c)) (c ∷ cs) g begun.groups
          (record { full = whole; entries = begun.entries });
      fits = omega arith;
      entries = tt;
    }
