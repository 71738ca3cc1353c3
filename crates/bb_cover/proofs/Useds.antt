-- Which states and symbols the entries of a machine need.
use Rattle.std.proofs.Common.{◌≡◌, ℕ, ◌<◌, ◌≤◌, length, inl, inr, refl, sym, subst, arith}
use Rattle.std.proofs.lemmas.Bool.{cases_lt}
use Rattle.bb_machine.specs.declared.entry.Entry.{Entry}
use Rattle.bb_machine.specs.declared.entry.Entry.TheVariants.{Undefined, Go}
use Rattle.bb_machine.specs.declared.entry.Next.TheVariants.{State, Halt}
use Rattle.bb_machine.specs.Entry.{IsEntryOf}
use Rattle.bb_machine.specs.Machine.{Table, IsMachine, entry_of, symbols_of}
use Rattle.laws_of_verdicts.specs.Walk.{Uses}
use Rattle.bb_cover.specs.Used.{NeedsEntry, NeedsRow}
use Rattle.bb_cover.proofs.Tables.{outside}

named_more : (entry : Entry) (n k n' k' : ℕ) → n ≤ n' → k ≤ k' → IsEntryOf n k entry → IsEntryOf n' k' entry
named_more Undefined n k n' k' a b named = tt
named_more (Go write dir (State to)) n k n' k' a b named =
    (let h = named.0 in omega (arith, h, b), let h = named.1 in omega (arith, h, a))
named_more (Go write dir Halt) n k n' k' a b named = (let h = named.0 in omega (arith, h, b), tt)

pub needs_more : (q s : ℕ) (entry : Entry) (n k n' k' : ℕ) → n ≤ n' → k ≤ k' → NeedsEntry n k q s entry
    → NeedsEntry n' k' q s entry
needs_more q s entry n k n' k' a b needs = record {
  named = named_more entry n k n' k' a b needs.named;
  for_these = λ some. let h = needs.for_these some in let one = h.0 in let two = h.1 in
      (omega (arith, one, a), omega (arith, two, b));
}

nothing : (n k q s : ℕ) (entry : Entry) → entry ≡ Undefined → NeedsEntry n k q s entry
nothing n k q s entry e = subst (NeedsEntry n k q s) (sym e)
    (record { named = tt; for_these = λ some. absurd (some refl) })

everywhere : (table : Table) → IsMachine table → (n k : ℕ)
    → ((q : ℕ) → q < length table → NeedsRow n k table q) → (q s : ℕ)
    → NeedsEntry n k q s (entry_of table q s)
everywhere table machine n k rows q s = elim (cases_lt q (length table)) [
  | inl below ↦ elim (cases_lt s (symbols_of table)) [
    | inl inside ↦ rows q below s inside
    | inr past ↦ nothing n k q s (entry_of table q s) (outside table machine q s (λ _. past))
  ]
  | inr above ↦ nothing n k q s (entry_of table q s)
      (outside table machine q s (λ below. absurd (omega (arith, above, below))))
]

pub uses : (table : Table) → IsMachine table → (n k : ℕ) → 1 ≤ n → 1 ≤ k
    → ((q : ℕ) → q < length table → NeedsRow n k table q)
    → ((n' k' : ℕ) → 1 ≤ n' → 1 ≤ k' → ((q : ℕ) → q < length table → NeedsRow n' k' table q)
    → (n ≤ n') × (k ≤ k'))
    → Uses table n k
uses table machine n k some some_too rows least = record {
  first = record {
    some_state = omega (arith, some);
    some_symbol = omega (arith, some_too);
    named = λ q s. (everywhere table machine n k rows q s).named;
    for_these = λ q s. (everywhere table machine n k rows q s).for_these;
  };
  least = λ n' k' first. least n' k' (let h = first.some_state in omega (arith, h))
      (let h = first.some_symbol in omega (arith, h))
      (λ q below s inside. record { named = first.named q s; for_these = first.for_these q s });
}
