-- Lists of bytes.
use Rattle.std.proofs.Common.{ℕ, zero, suc, ◌+◌, ◌-◌, ◌*◌, ◌<◌, List, [], ◌∷◌, ◌++◌, length, take, replicate, slice_set, slice_index, arith}
use Rattle.vm_facts.specs.Answers.{ByteWrite}
use Rattle.flat_state.specs.declared.spot.Spot.{Spot}
use Rattle.flat_state.specs.declared.spot.Spot.TheVariants as spots
use Rattle.flat_state.specs.Space.{Space, address_in, put_at, put_in_space, puts}
use Rattle.flat_state.specs.Flat.{strings_of, in_longwords, string_area, strings_at, pointers_from, argument_area, start_page}
use Rattle.flat_state.specs.Change.{resized_bytes}
use Rattle.aout_image.specs.Image.{word_bytes}
use Rattle.vax_code.specs.Grammar.{AreOctets}
use Rattle.vax_code.proofs.Readers.{octets-append}
use Rattle.flat_laws.specs.Longwords.{HasOctets, AreWritten}

pub take_octets : (n : ℕ) (xs : List ℕ) → AreOctets xs → AreOctets (take n xs)
take_octets zero xs a = tt
take_octets (suc n) [] a = tt
take_octets (suc n) (x ∷ xs) a = (a.0, take_octets n xs a.1)

pub zero_octets : (n : ℕ) → AreOctets (replicate n 0)
zero_octets zero = tt
zero_octets (suc n) = (omega arith, zero_octets n)

set_octets : (xs : List ℕ) (i byte : ℕ) → byte < 256 → AreOctets xs → AreOctets (slice_set xs i byte)
set_octets [] i byte b a = tt
set_octets (x ∷ xs) zero byte b a = (b, a.1)
set_octets (x ∷ xs) (suc i) byte b a = (a.0, set_octets xs i byte b a.1)

pub index_octets : (xs : List ℕ) (i : ℕ) → AreOctets xs → slice_index xs i < 256
index_octets [] i a = omega arith
index_octets (x ∷ xs) zero a = a.0
index_octets (x ∷ xs) (suc i) a = index_octets xs i a.1

-- Spaces.

pub octets_resized : (pages : ℕ) (xs : List ℕ) → AreOctets xs → AreOctets (resized_bytes pages xs)
octets_resized pages xs a = octets-append (take (1024 * pages) xs) (replicate (1024 * pages - length xs) 0) (take_octets (1024 * pages) xs a) (zero_octets (1024 * pages - length xs))

put_octets : (s : Space) (spot : Spot) (byte : ℕ) → byte < 256 → HasOctets s → HasOctets (put_at s spot byte)
put_octets s (spots.Data i) byte b o = record { text = o.text; «data» = set_octets s.data_bytes i byte b o.data; stack = o.stack }
put_octets s (spots.Stack i) byte b o = record { text = o.text; «data» = o.data; stack = set_octets s.stack_bytes i byte b o.stack }
put_octets s _ byte b o = o

pub puts_octets : (ws : List ByteWrite) (s : Space) → AreWritten ws → HasOctets s → HasOctets (puts s ws)
puts_octets [] s w o = o
puts_octets (x ∷ ws) s w o = puts_octets ws (put_in_space s x) w.1 (put_octets s (address_in s x.address) x.byte w.0 o)

-- The page on which arguments stand.

word_octets : (n : ℕ) → AreOctets (word_bytes n)
word_octets n = (omega arith, (omega arith, (omega arith, (omega arith, tt))))

pointer_octets : (arguments : List (List ℕ)) (address : ℕ) → AreOctets (pointers_from address arguments)
pointer_octets [] address = tt
pointer_octets (argument ∷ more) address =
    octets-append (word_bytes address) (pointers_from (address + length argument + 1) more) (word_octets address) (pointer_octets more (address + length argument + 1))

abbrev pub AreStrings : List (List ℕ) → Type 0
AreStrings [] = Unit {0}
AreStrings (string ∷ strings) = AreOctets string × AreStrings strings

strings_octets : (arguments : List (List ℕ)) → AreStrings arguments → AreOctets (strings_of arguments)
strings_octets [] a = tt
strings_octets (argument ∷ more) a = octets-append (argument ++ 0 ∷ []) (strings_of more) (octets-append argument (0 ∷ []) a.0 (omega arith, tt)) (strings_octets more a.1)

area_octets : (arguments : List (List ℕ)) → AreStrings arguments → AreOctets (argument_area arguments)
unfolding argument_area
area_octets arguments a =
    let front : List ℕ = word_bytes (length arguments) ++ pointers_from (strings_at arguments) arguments in
    let rest : ℕ = in_longwords (length (strings_of arguments)) - length (strings_of arguments) in
    let strings = octets-append (strings_of arguments) (replicate rest 0) (strings_octets arguments a) (zero_octets rest) in
    let one = octets-append (word_bytes (length arguments)) (pointers_from (strings_at arguments) arguments) (word_octets (length arguments)) (pointer_octets arguments (strings_at arguments)) in
    let two = octets-append front (word_bytes 0) one (word_octets 0) in
    let three = octets-append (front ++ word_bytes 0) (word_bytes 0) two (word_octets 0) in
    let four = octets-append (front ++ word_bytes 0 ++ word_bytes 0) (string_area arguments) three strings in
    octets-append (front ++ word_bytes 0 ++ word_bytes 0 ++ string_area arguments) (word_bytes 0) four (word_octets 0)

pub start_page_octets : (arguments : List (List ℕ)) → AreStrings arguments → AreOctets (start_page arguments)
start_page_octets arguments a =
    octets-append (replicate (1024 - length (argument_area arguments)) 0) (argument_area arguments) (zero_octets (1024 - length (argument_area arguments))) (area_octets arguments a)
