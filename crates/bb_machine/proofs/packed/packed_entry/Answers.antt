use Rattle.std.proofs.Common.{◌≡◌, ◌+◌, ◌%◌, ◌∙◌, get_or, ap, bit_and, sym, arith, rules}
use Rattle.bb_machine.specs.declared.entry.Dir.TheVariants.{L, R}
use Rattle.bb_machine.specs.declared.entry.Next.TheVariants.{State, Halt}
use Rattle.bb_machine.specs.declared.entry.Entry.TheVariants.{Undefined, Go}
use Rattle.bb_machine.proofs.packed.packed_entry.Goals as goal

pub returns-clause-entry : goal.returns-clause-entry
returns-clause-entry c Undefined named is m =
    let third : 45 ≡ get_or c.args.text 2 0 = ap (λ x. get_or x 2 0) is in
    let t : c.from-letter.result ≡ 45 = c.from-letter.ensures ∙ sym third in
    let z : c.from-is_z.result ≡ 0 = search rules in
    let f : c.from-flags.result ≡ (45 + c.args.symbol) % 256 % 2 + 0 + c.from-is_z.result =
    c.from-flags.ensures
    ∙ ap (λ x. (get_or x 0 0 + c.args.symbol) % 256 % 2 + bit_and (get_or x 1 0) 2 + c.from-is_z.result) (sym is) in (
      omega (arith, f, t, z, c.requires.symbol),
      omega (arith, f, t, z, c.requires.symbol),
    )
returns-clause-entry c (Go write L Halt) named is m =
    let third : 90 ≡ get_or c.args.text 2 0 = ap (λ x. get_or x 2 0) is in
    let t : c.from-letter.result ≡ 90 = c.from-letter.ensures ∙ sym third in
    let z : c.from-is_z.result ≡ 1 = search rules in
    let f : c.from-flags.result ≡ (48 + write + c.args.symbol) % 256 % 2 + 0 + c.from-is_z.result =
    c.from-flags.ensures
    ∙ ap (λ x. (get_or x 0 0 + c.args.symbol) % 256 % 2 + bit_and (get_or x 1 0) 2 + c.from-is_z.result) (sym is) in (
      omega (arith, f, t, z, c.requires.symbol, named.0),
      omega (arith, f, t, z, c.requires.symbol, named.0),
      omega (arith, f, t, z, c.requires.symbol, named.0),
      omega (arith, f, t, z, c.requires.symbol, named.0),
    )
returns-clause-entry c (Go write R Halt) named is m =
    let third : 90 ≡ get_or c.args.text 2 0 = ap (λ x. get_or x 2 0) is in
    let t : c.from-letter.result ≡ 90 = c.from-letter.ensures ∙ sym third in
    let z : c.from-is_z.result ≡ 1 = search rules in
    let f : c.from-flags.result ≡ (48 + write + c.args.symbol) % 256 % 2 + 2 + c.from-is_z.result =
    c.from-flags.ensures
    ∙ ap (λ x. (get_or x 0 0 + c.args.symbol) % 256 % 2 + bit_and (get_or x 1 0) 2 + c.from-is_z.result) (sym is) in (
      omega (arith, f, t, z, c.requires.symbol, named.0),
      omega (arith, f, t, z, c.requires.symbol, named.0),
      omega (arith, f, t, z, c.requires.symbol, named.0),
      omega (arith, f, t, z, c.requires.symbol, named.0),
    )
returns-clause-entry c (Go write L (State state)) named is m =
    let third : 65 + state ≡ get_or c.args.text 2 0 = ap (λ x. get_or x 2 0) is in
    let t : c.from-letter.result ≡ 65 + state = c.from-letter.ensures ∙ sym third in
    let z : c.from-is_z.result ≡ 0 = search rules in
    let f : c.from-flags.result ≡ (48 + write + c.args.symbol) % 256 % 2 + 0 + c.from-is_z.result =
    c.from-flags.ensures
    ∙ ap (λ x. (get_or x 0 0 + c.args.symbol) % 256 % 2 + bit_and (get_or x 1 0) 2 + c.from-is_z.result) (sym is) in (
      omega (arith, f, t, z, c.requires.symbol, named.0, named.1),
      omega (arith, f, t, z, c.requires.symbol, named.0, named.1),
      omega (arith, f, t, z, c.requires.symbol, named.0, named.1),
      omega (arith, f, t, z, c.requires.symbol, named.0, named.1),
    )
returns-clause-entry c (Go write R (State state)) named is m =
    let third : 65 + state ≡ get_or c.args.text 2 0 = ap (λ x. get_or x 2 0) is in
    let t : c.from-letter.result ≡ 65 + state = c.from-letter.ensures ∙ sym third in
    let z : c.from-is_z.result ≡ 0 = search rules in
    let f : c.from-flags.result ≡ (48 + write + c.args.symbol) % 256 % 2 + 2 + c.from-is_z.result =
    c.from-flags.ensures
    ∙ ap (λ x. (get_or x 0 0 + c.args.symbol) % 256 % 2 + bit_and (get_or x 1 0) 2 + c.from-is_z.result) (sym is) in (
      omega (arith, f, t, z, c.requires.symbol, named.0, named.1),
      omega (arith, f, t, z, c.requires.symbol, named.0, named.1),
      omega (arith, f, t, z, c.requires.symbol, named.0, named.1),
      omega (arith, f, t, z, c.requires.symbol, named.0, named.1),
    )
