-- What the getters of a command line's matches read.
use Rattle.std.proofs.Common.{◌≡◌, ℕ, Bool, true, false, List, Option, Some, None, refl, sym, arith, codes}
use Rattle.std.specs.Prelude.{Result, Ok, Err, option_map, unwrap_or}
use Rattle.std.specs.Borrow.{Bor}
use Rattle.std.specs.Option.{option_map_or}
use Rattle.std.specs.Str.{bytes_eq}
use Rattle.std.specs.Str.Parse.{ParsesBool, ParsesUnsigned}
use Rattle.std.proofs.lemmas.Slice.Eq.{bytes_eq-Decides}
use Rattle.clap.specs.Words.{ReadsOne, one_text, rows_of}
use Rattle.clap.specs.ValueTests.{is_unsigned_in}
use Rattle.clap.specs.declared.builder.value_parser.ValueParser.TheVariants as vp
use Rattle.clap.proofs.ValueTestLemmas.{accepts-Accepts, Accepts-accepts}
use Rattle.clap.proofs.WalkLemmas.{one_text-rows}
use Rattle.clap.specs.declared.parser.matches.Found.{Found}
use Rattle.bb_command.specs.Command.{number_in, number_of, is_given}

number_read : {E : Type 0} (G : List ℕ → Result ℕ E → Type 0)
    → ((t : List ℕ) (x : Result ℕ E) → G t x → ParsesUnsigned 64 10 t x)
    → (text : List ℕ) (r : Option ℕ) → ReadsOne G text r → unwrap_or r 0 ≡ number_in text
number_read G parses text (Some n) h =
    let p = parses text (Ok n) h in
    let fits : is_unsigned_in 0 18446744073709551615 text ≡ true =
    Accepts-accepts false (vp.Unsigned 0 18446744073709551615) text
    (p.0.0, p.0.1, omega arith, omega arith) in
    rw fits p.1
number_read G parses text None h = go (is_unsigned_in 0 18446744073709551615 text) refl
  where
    go : (b : Bool) → is_unsigned_in 0 18446744073709551615 text ≡ b → 0 ≡ number_in text
    go true is =
        let a = accepts-Accepts false (vp.Unsigned 0 18446744073709551615) text is in
        absurd (parses text (Err h.0) h.1 (a.0, a.1))
    go false is = rw is refl

-- an option's number, by the rows of the matches
pub number_by_rows : {E : Type 0} (G : List ℕ → Result ℕ E → Type 0)
    → ((t : List ℕ) (x : Result ℕ E) → G t x → ParsesUnsigned 64 10 t x)
    → (f : Found) (name : List ℕ) (r : Option ℕ)
    → (one_text f name ≡ None → r ≡ None) → ((t : List ℕ) → one_text f name ≡ Some t → ReadsOne G t r)
    → unwrap_or r 0 ≡ number_of name (rows_of f)
number_by_rows G parses f name r none value = rw (← one_text-rows f name) (go (one_text f name) refl)
  where
    go : (o : Option (List ℕ)) → one_text f name ≡ o → unwrap_or r 0 ≡ option_map_or number_in o 0
    go None is = rw (none is) refl
    go (Some t) is = number_read G parses t r (value t is)

flag_read : {E : Type 0} (G : List ℕ → Result Bool E → Type 0)
    → ((t : List ℕ) (x : Result Bool E) → G t x → ParsesBool t x)
    → (text : List ℕ) (r : Option Bool) → ReadsOne G text r → unwrap_or r false ≡ bytes_eq text (codes "true")
flag_read G parses text (Some true) h = rw (parses text (Ok true) h) refl
flag_read G parses text (Some false) h = rw (parses text (Ok false) h) refl
flag_read G parses text None h = go (bytes_eq text (codes "true")) refl
  where
    go : (b : Bool) → bytes_eq text (codes "true") ≡ b → false ≡ bytes_eq text (codes "true")
    go true is = absurd ((parses text (Err h.0) h.1).0 ((bytes_eq-Decides text (codes "true")).0 is))
    go false is = sym is

-- whether an option without a value is given, by the rows of the matches
pub given_by_rows : {E : Type 0} (G : List ℕ → Result Bool E → Type 0)
    → ((t : List ℕ) (x : Result Bool E) → G t x → ParsesBool t x)
    → (f : Found) (name : List ℕ) (r : Option Bool)
    → (one_text f name ≡ None → r ≡ None) → ((t : List ℕ) → one_text f name ≡ Some t → ReadsOne G t r)
    → unwrap_or r false ≡ is_given name (rows_of f)
given_by_rows G parses f name r none value = rw (← one_text-rows f name) (go (one_text f name) refl)
  where
    go : (o : Option (List ℕ)) → one_text f name ≡ o
        → unwrap_or r false ≡ option_map_or (λ text. bytes_eq text (codes "true")) o false
    go None is = rw (none is) refl
    go (Some t) is = flag_read G parses t r (value t is)

pub text_or : (o : Option (Bor (List ℕ))) (other : Bor (List ℕ))
    → (unwrap_or o other).now ≡ unwrap_or (option_map (λ text. text.now) o) other.now
text_or None other = refl
text_or (Some text) other = refl
