-- Decoding is exact against the grammar.
use Rattle.std.proofs.Common.{◌≡◌, ◌≢◌, ◌↔◌, ◌∙◌, ℕ, List, [], ◌∷◌, ◌++◌, suc, Ok, Err, refl, ap, sym, subst, arith, Fits, w8, get_or}
use Rattle.vax_code.specs.declared.reader.Fault.TheVariants.{Short, Bad}
use Rattle.vax_code.specs.declared.instr.Instr.{Instr}
use Rattle.vax_code.specs.declared.instr.Decoded.{Decoded}
use Rattle.vax_code.specs.declared.instr.Decoded.TheVariants as decodings
use Rattle.vax_code.specs.Reading.{Read, instruction_at, decoded, decoding_of}
use Rattle.vax_code.specs.Grammar.{AreOctets, BeginsWith, IsProperPrefix, DecodesAs}
use Rattle.vax_code.proofs.Readers.{parts, octets-append}
use Rattle.vax_code.proofs.Reading.{instruction_reader}
use Rattle.vax_code.proofs.Spelling.{instruction_spelled, octets_front}
use Rattle.vax_code.proofs.Parsing.{instruction_read}
use Rattle.vax_code.proofs.Filled.{decoding_read}

-- ---- what a decoding says of the reading

is_short : (read : Read Instr) → decoding_of read ≡ decodings.NeedMore → read ≡ Err Short
is_short (Ok x) h = absurd (cc)
is_short (Err Short) h = refl
is_short (Err Bad) h = absurd (cc)

is_bad : (read : Read Instr) → decoding_of read ≡ decodings.Reserved → read ≡ Err Bad
is_bad (Ok x) h = absurd (cc)
is_bad (Err Short) h = absurd (cc)
is_bad (Err Bad) h = refl

-- ---- Is

pub begins : (bytes : List ℕ) (instr : Instr) → AreOctets bytes → decoded bytes ≡ decodings.Is instr → BeginsWith bytes instr
unfolding decoded
begins bytes instr octets h =
    let read = decoding_read (instruction_at bytes) instr h in
    let front = instruction_reader.fronts bytes instr read.0 read.1 in
    record {
      front = front.0;
      rest = read.0;
      split = front.1;
      whole = instruction_spelled front.0 instr (octets_front front.0 read.0 (subst (λ (l : List ℕ). AreOctets l) front.1 octets)) front.2;
    }

pub begun : (bytes : List ℕ) (instr : Instr) → BeginsWith bytes instr → (rest : List ℕ) × (instruction_at bytes ≡ Ok (instr, rest))
begun bytes instr h =
    (h.rest, ap instruction_at h.split ∙ instruction_reader.extends h.front h.rest instr [] (instruction_read h.front instr h.whole))

pub is_decoded : (bytes : List ℕ) (instr : Instr) → BeginsWith bytes instr → decoded bytes ≡ decodings.Is instr
unfolding decoded
is_decoded bytes instr h = ap decoding_of (begun bytes instr h).1

-- ---- NeedMore

some_more : (bytes more : List ℕ) (instr : Instr) → instruction_at bytes ≡ Err Short → instruction_at (bytes ++ more) ≡ Ok (instr, []) → more ≢ []
some_more bytes more instr short h none =
    let same : instruction_at bytes ≡ Ok (instr, []) = ap instruction_at (sym (append_none bytes) ∙ ap (λ (l : List ℕ). bytes ++ l) (sym none)) ∙ h in
    absurd (cc (short, same))
  where
    append_none : (bytes : List ℕ) → bytes ++ [] ≡ bytes
    append_none [] = refl
    append_none (b ∷ bs) = ap (λ (l : List ℕ). b ∷ l) (append_none bs)

pub prefix : (bytes : List ℕ) → AreOctets bytes → decoded bytes ≡ decodings.NeedMore → IsProperPrefix bytes
unfolding decoded
prefix bytes octets h =
    let short = is_short (instruction_at bytes) h in
    let one = instruction_reader.completes bytes short in
    record {
      more = one.more;
      instr = one.value;
      octets = one.octets;
      some = some_more bytes one.more one.value short one.reads;
      whole = instruction_spelled (bytes ++ one.more) one.value (octets-append bytes one.more octets one.octets) one.reads;
    }

nothing_after : (rest more : List ℕ) → rest ++ more ≡ [] → more ≡ []
nothing_after [] more h = h
nothing_after (b ∷ bs) more h = absurd (cc)

unfinished : (read : Read Instr) (bytes more : List ℕ) (instr : Instr) → instruction_at bytes ≡ read → more ≢ []
    → instruction_at (bytes ++ more) ≡ Ok (instr, []) → read ≡ Err Short
unfinished (Ok x) bytes more instr e some h =
    let longer = instruction_reader.extends bytes more x.0 x.1 e in
    absurd (some (nothing_after x.1 more (parts x.0 instr (x.1 ++ more) [] (sym longer ∙ h)).1))
unfinished (Err Short) bytes more instr e some h = refl
unfinished (Err Bad) bytes more instr e some h =
    let stuck = instruction_reader.stuck bytes more e in absurd (cc (stuck, h))

pub needs_more : (bytes : List ℕ) → IsProperPrefix bytes → decoded bytes ≡ decodings.NeedMore
unfolding decoded
needs_more bytes h =
    ap decoding_of (unfinished (instruction_at bytes) bytes h.more h.instr refl h.some (instruction_read (bytes ++ h.more) h.instr h.whole))

-- ---- Reserved

judged : (bytes : List ℕ) (found : Decoded) → decoded bytes ≡ found → ((instr : Instr) → BeginsWith bytes instr → ⊥) → (IsProperPrefix bytes → ⊥)
    → AreOctets bytes → found ≡ decodings.Reserved
judged bytes (decodings.Is instr) e no_front no_more octets = absurd (no_front instr (begins bytes instr octets e))
judged bytes decodings.NeedMore e no_front no_more octets = absurd (no_more (prefix bytes octets e))
judged bytes decodings.Reserved e no_front no_more octets = refl

is_reserved : (bytes : List ℕ) → AreOctets bytes → ((instr : Instr) → BeginsWith bytes instr → ⊥) × (IsProperPrefix bytes → ⊥)
    → decoded bytes ≡ decodings.Reserved
is_reserved bytes octets h = judged bytes (decoded bytes) refl h.0 h.1 octets

nothing : (bytes : List ℕ) → decoded bytes ≡ decodings.Reserved → ((instr : Instr) → BeginsWith bytes instr → ⊥) × (IsProperPrefix bytes → ⊥)
nothing bytes h = (
  λ instr b. absurd (cc (h, is_decoded bytes instr b)),
  λ p. absurd (cc (h, needs_more bytes p)),
)

pub exact : (bytes : List ℕ) (found : Decoded) → AreOctets bytes → found ≡ decoded bytes → DecodesAs bytes found
exact bytes found octets e =
    subst (λ (d : Decoded). DecodesAs bytes d) (sym e)
    (record {
      is = λ instr. (begins bytes instr octets, is_decoded bytes instr);
      need_more = (prefix bytes octets, needs_more bytes);
      reserved = (nothing bytes, is_reserved bytes octets);
    })

-- ---- what follows an instruction, or what can't begin one, has no part in the decoding

pub decoded_extends : (bytes more : List ℕ) (instr : Instr) → decoded bytes ≡ decodings.Is instr → decoded (bytes ++ more) ≡ decodings.Is instr
unfolding decoded
decoded_extends bytes more instr h =
    let read = decoding_read (instruction_at bytes) instr h in
    ap decoding_of (instruction_reader.extends bytes more instr read.0 read.1)

pub decoded_stuck : (bytes more : List ℕ) → decoded bytes ≡ decodings.Reserved → decoded (bytes ++ more) ≡ decodings.Reserved
unfolding decoded
decoded_stuck bytes more h = ap decoding_of (instruction_reader.stuck bytes more (is_bad (instruction_at bytes) h))

-- ---- the grammar and the reading

allowed_is_read : (bytes : List ℕ) (result : Decoded) → AreOctets bytes → DecodesAs bytes result → result ≡ decoded bytes
allowed_is_read bytes (decodings.Is instr) octets h = sym (is_decoded bytes instr ((h.is instr).0 refl))
allowed_is_read bytes decodings.NeedMore octets h = sym (needs_more bytes (h.need_more.0 refl))
allowed_is_read bytes decodings.Reserved octets h = sym (is_reserved bytes octets (h.reserved.0 refl))

pub reading_is_the_grammar : (bytes : List ℕ) (result : Decoded) → AreOctets bytes → DecodesAs bytes result ↔ (result ≡ decoded bytes)
reading_is_the_grammar bytes result octets = (allowed_is_read bytes result octets, exact bytes result octets)

-- the bytes of a slice are bytes
pub slice_octets : (bytes : List ℕ) → ((i : ℕ) → Fits w8 (get_or bytes i 0)) → AreOctets bytes
slice_octets [] h = tt
slice_octets (b ∷ bs) h = ((let fits : Fits w8 b = h 0 in omega arith), slice_octets bs (λ i. h (suc i)))
