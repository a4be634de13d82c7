-- A listing, line by line.
use Rattle.std.proofs.Common.{◌≡◌, ◌≢◌, ◌≤◌, ◌<◌, ◌+◌, ◌-◌, ℕ, List, ◌∷◌, [], ◌++◌, length, take, drop, refl, sym, ap, ◌∙◌, subst, append_assoc, arith}
use Rattle.std.proofs.lemmas.List.{length-drop, take_all}
use Rattle.vax_code.specs.declared.instr.Instr.{Instr}
use Rattle.vax_code.specs.declared.instr.Decoded.TheVariants as decodings
use Rattle.vax_code.specs.Grammar.{AreOctets}
use Rattle.vax_code.specs.Reading.{decoded}
use Rattle.vax_code.proofs.Law.{exact}
use Rattle.vax_code.proofs.Lengths.{has_length}
use Rattle.vax_disasm.specs.Showing.{IsTextOf, ShowsAs}
use Rattle.vax_disasm.specs.declared.disassembly.Shown.{Shown}
use Rattle.vax_disasm.specs.declared.disassembly.Shown.TheVariants as shownings
use Rattle.source_commands.specs.Listing.{Listed, AreListed, IsListing, Moves, line_text, end_text, listing_text}

-- an instruction has at least one byte
pub moves : (bytes : List ℕ) (at : ℕ) (shown : Shown) → AreOctets bytes → ShowsAs bytes at shown → Moves bytes shown
moves bytes at (shownings.Is text count size) octets shows =
    let is = shows.0 in
    let long = has_length bytes (decodings.Is is.instr) (exact bytes (decodings.Is is.instr) octets (sym is.decodes)) in
    (subst (λ (n : ℕ). 0 < n) is.sized long.0, is.within, shows.1)
moves bytes at shownings.NoInstruction octets shows = tt

-- the lines so far, in front of those of what is left, are the listing
pub record ListedSoFar (start : ℕ) (code front rest : List ℕ) (at : ℕ) : Type 0 where
  pub place : at + length rest ≡ start + length code
  pub goes_on : (others : List Listed) → AreListed at rest others → IsListing start code (front ++ listing_text at others)

pub listed_nothing : (start : ℕ) (code front : List ℕ) → front ≡ [] → ListedSoFar start code front code start
listed_nothing start code front empty = record {
  place = refl;
  goes_on = λ others listed. record { instructions = others; listed = listed; written = ap (λ (xs : List ℕ). xs ++ listing_text start others) empty };
}

pub listed_more : (start : ℕ) (code front rest : List ℕ) (at : ℕ) (text front' : List ℕ) (size n : ℕ) → n ≡ length rest - size
    → ListedSoFar start code front rest at → IsTextOf rest at text size → size ≤ length rest
    → front' ≡ front ++ line_text at text → ListedSoFar start code front' (take n (drop size rest)) (at + size)
listed_more start code front rest at text front' size n left far shown within longer =
    let whole : take n (drop size rest) ≡ drop size rest = take_all n (drop size rest) (omega (arith, left, length-drop size rest)) in
    subst (λ (xs : List ℕ). ListedSoFar start code front' xs (at + size)) (sym whole) record {
      place = omega (arith, far.place, within, length-drop size rest);
      goes_on = λ others listed.
          let all = far.goes_on (record { text = text; size = size } ∷ others) (shown, listed) in
          subst (IsListing start code)
          (sym (append_assoc front (line_text at text) (listing_text (at + size) others)) ∙ ap (λ (xs : List ℕ). xs ++ listing_text (at + size) others) (sym longer)) all;
    }

pub listed_all : (start : ℕ) (code front rest : List ℕ) (at : ℕ) (text : List ℕ) → ListedSoFar start code front rest at
    → ((instr : Instr) → decoded rest ≢ decodings.Is instr)
    → text ≡ front ++ end_text at → IsListing start code text
listed_all start code front rest at text far none longer = subst (IsListing start code) (sym longer) (far.goes_on [] none)
