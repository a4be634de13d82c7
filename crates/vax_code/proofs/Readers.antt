-- Reading looks at a front of the bytes alone, and where they end too soon some bytes complete it.
use Rattle.std.proofs.Common.{◌≡◌, ◌∙◌, ℕ, zero, suc, ◌+◌, ◌-◌, ◌<◌, ◌≤◌, length-append, ◌≤◌, Bool, true, false, cond, List, [], ◌∷◌, ◌++◌, length, take, drop, Result, Ok, Err, refl, ap, sym, arith, append_assoc, nat_lt, inl, inr, ◌⊎◌}
use Rattle.std.proofs.lemmas.Bool.{ltb-true, ltb-false}
use Rattle.std.proofs.lemmas.List.{take-append-drop}
use Rattle.std.proofs.lemmas.Grind.{common_steps}
use Rattle.std.specs.Int.{from_le_bytes}
use Rattle.vax_code.specs.declared.reader.Fault.{Fault}
use Rattle.vax_code.specs.declared.reader.Fault.TheVariants.{Short, Bad}
use Rattle.vax_code.specs.Reading.{Read, ◌>>=◌, next_byte, next_number, with_count}
use Rattle.vax_code.specs.Operands.{width_of}
use Rattle.vax_code.specs.Operands.{Spelled}
use Rattle.vax_code.specs.declared.instr.Operand.{Operand}
use Rattle.vax_code.specs.Grammar.{AreOctets}

-- bytes that complete the given ones
pub record Completion {A : Type 0} (read : List ℕ → Read A) (bytes : List ℕ) : Type 0 where
  pub more : List ℕ
  pub octets : AreOctets more
  pub value : A
  pub reads : read (bytes ++ more) ≡ Ok (value, [])

-- what follows a front changes neither what is read nor a refusal, what is read stands in a front,
-- and where the bytes end too soon some more complete them
pub record IsReader {A : Type 0} (read : List ℕ → Read A) : Type 0 where
  pub extends : (bytes more : List ℕ) (x : A) (rest : List ℕ) → read bytes ≡ Ok (x, rest) → read (bytes ++ more) ≡ Ok (x, rest ++ more)
  pub stuck : (bytes more : List ℕ) → read bytes ≡ Err Bad → read (bytes ++ more) ≡ Err Bad
  pub fronts : (bytes : List ℕ) (x : A) (rest : List ℕ) → read bytes ≡ Ok (x, rest) → (front : List ℕ) × (bytes ≡ front ++ rest) × (read front ≡ Ok (x, []))
  pub completes : (bytes : List ℕ) → read bytes ≡ Err Short → Completion read bytes

pub octets-append : (xs ys : List ℕ) → AreOctets xs → AreOctets ys → AreOctets (xs ++ ys)
octets-append [] ys h k = k
octets-append (x ∷ xs) ys h k = (h.0, octets-append xs ys h.1 k)

pub bind_ok : {A B : Type 0} (r : Result A Fault) (f : A → Result B Fault) (y : B) → (r >>= f) ≡ Ok y → (x : A) × (r ≡ Ok x) × (f x ≡ Ok y)
bind_ok (Ok x) f y h = (x, refl, h)
bind_ok (Err e) f y h = absurd (cc)

-- one reading after another, where it is known how to complete the first
bind_with : {A B : Type 0} {p : List ℕ → Read A} {f : A → List ℕ → Read B} → IsReader p → ((x : A) → IsReader (f x))
    → ((bytes : List ℕ) → p bytes ≡ Err Short → Completion (λ bytes. p bytes >>= λ r. f r.0 r.1) bytes)
    → IsReader (λ bytes. p bytes >>= λ r. f r.0 r.1)
bind_with {A = A} {B = B} {p = p} {f = f} first then from_short = record {
  extends = λ bytes more y rest h.
      let parts = bind_ok (p bytes) (λ r. f r.0 r.1) (y, rest) h in
      rw (first.extends bytes more parts.0.0 parts.0.1 parts.1) ((then parts.0.0).extends parts.0.1 more y rest parts.2);
  stuck = λ bytes more h.
      (elim (p bytes) as (λ (r : Read A). p bytes ≡ r → (r >>= λ (x : A × List ℕ). f x.0 x.1) ≡ Err Bad → (p (bytes ++ more) >>= λ (x : A × List ℕ). f x.0 x.1) ≡ Err Bad) [
        | Ok x ↦ λ e k. rw (first.extends bytes more x.0 x.1 e) ((then x.0).stuck x.1 more k)
        | Err e' ↦ λ e k. let bad : p bytes ≡ Err Bad = e ∙ cc in rw (first.stuck bytes more bad) refl
      ]) refl h;
  fronts = λ bytes y rest h.
      let parts = bind_ok (p bytes) (λ r. f r.0 r.1) (y, rest) h in
      let one = first.fronts bytes parts.0.0 parts.0.1 parts.1 in
      let two = (then parts.0.0).fronts parts.0.1 y rest parts.2 in (
        one.0 ++ two.0,
        one.1 ∙ ap (λ (l : List ℕ). one.0 ++ l) two.1 ∙ sym (append_assoc one.0 two.0 rest),
        rw (first.extends one.0 two.0 parts.0.0 [] one.2) two.2,
      );
  completes = λ bytes h.
      (elim (p bytes) as (λ (r : Read A). p bytes ≡ r → (r >>= λ (x : A × List ℕ). f x.0 x.1) ≡ Err Short → Completion (λ bytes. p bytes >>= λ (x : A × List ℕ). f x.0 x.1) bytes) [
        | Ok x ↦ λ e k.
            let tail = (then x.0).completes x.1 k in
            record {
              more = tail.more;
              octets = tail.octets;
              value = tail.value;
              reads = rw (first.extends bytes tail.more x.0 x.1 e) tail.reads;
            }
        | Err e' ↦ λ e k. let short : p bytes ≡ Err Short = e ∙ cc in from_short bytes short
      ]) refl h;
}

-- a first reading completed, and a second one begun after it
pub joined : {A B : Type 0} {p : List ℕ → Read A} {f : A → List ℕ → Read B} (bytes : List ℕ) → IsReader p → Completion p bytes
    → ((x : A) → Completion (f x) []) → Completion (λ bytes. p bytes >>= λ r. f r.0 r.1) bytes
joined {p = p} {f = f} bytes first one begins =
    let two = begins one.value in
    record {
      more = one.more ++ two.more;
      octets = octets-append one.more two.more one.octets two.octets;
      value = two.value;
      reads = rw (← append_assoc bytes one.more two.more) (rw (first.extends (bytes ++ one.more) two.more one.value [] one.reads) two.reads);
    }

pub bind_reader : {A B : Type 0} {p : List ℕ → Read A} {f : A → List ℕ → Read B} → IsReader p → ((x : A) → IsReader (f x))
    → ((x : A) → Completion (f x) []) → IsReader (λ bytes. p bytes >>= λ r. f r.0 r.1)
bind_reader {p = p} {f = f} first then begins = bind_with first then (λ bytes h. joined bytes first (first.completes bytes h) begins)

-- the value and the rest of what was read, or what is given
abbrev pub value_of : {A : Type 0} → A → Read A → A
value_of d (Ok x) = x.0
value_of d (Err e) = d

abbrev pub rest_of : {A : Type 0} → List ℕ → Read A → List ℕ
rest_of d (Ok x) = x.1
rest_of d (Err e) = d

-- the parts of what was read
pub parts : {A : Type 0} (x y : A) (l m : List ℕ) → (let read : Read A = Ok (x, l) in read) ≡ Ok (y, m) → (x ≡ y) × (l ≡ m)
parts x y l m h = (ap (value_of x) h, ap (rest_of l) h)

with_rest : {A : Type 0} → (List ℕ → List ℕ) → Read A → Read A
with_rest change (Ok r) = Ok (r.0, change r.1)
with_rest change (Err e) = Err e

pub byte_reader : IsReader next_byte
unfolding next_byte with_rest
byte_reader = record {
  extends = extends;
  stuck = stuck;
  fronts = fronts;
  completes = completes;
}
  where
    extends : (bytes more : List ℕ) (x : ℕ) (rest : List ℕ) → next_byte bytes ≡ Ok (x, rest) → next_byte (bytes ++ more) ≡ Ok (x, rest ++ more)
    extends [] more x rest h = absurd (cc)
    extends (b ∷ bs) more x rest h = ap (λ (r : Read ℕ). with_rest (λ l. l ++ more) r) h

    stuck : (bytes more : List ℕ) → next_byte bytes ≡ Err Bad → next_byte (bytes ++ more) ≡ Err Bad
    stuck [] more h = absurd (cc)
    stuck (b ∷ bs) more h = absurd (cc)

    fronts : (bytes : List ℕ) (x : ℕ) (rest : List ℕ) → next_byte bytes ≡ Ok (x, rest) → (front : List ℕ) × (bytes ≡ front ++ rest) × (next_byte front ≡ Ok (x, []))
    fronts [] x rest h = absurd (cc)
    fronts (b ∷ bs) x rest h =
        let e : b ≡ x = ap (value_of b) h in
        let k : bs ≡ rest = ap (rest_of bs) h in
        (b ∷ [], ap (λ (l : List ℕ). b ∷ l) k, ap (λ (n : ℕ). Ok (n, [])) e)

    completes : (bytes : List ℕ) → next_byte bytes ≡ Err Short → Completion next_byte bytes
    completes [] h = record { more = 0 ∷ []; octets = (omega arith, tt); value = 0; reads = refl }
    completes (b ∷ bs) h = absurd (cc)

-- a byte, and something that one byte at least can begin
pub begins_byte : {B : Type 0} (f : ℕ → List ℕ → Read B) (byte : ℕ) → byte < 256 → Completion (f byte) []
    → Completion (λ bytes. next_byte bytes >>= λ r. f r.0 r.1) []
unfolding next_byte
begins_byte f byte small tail = record { more = byte ∷ tail.more; octets = (small, tail.octets); value = tail.value; reads = tail.reads }

pub byte_then : {B : Type 0} {f : ℕ → List ℕ → Read B} → ((byte : ℕ) → IsReader (f byte)) → Completion (λ bytes. next_byte bytes >>= λ r. f r.0 r.1) []
    → IsReader (λ bytes. next_byte bytes >>= λ r. f r.0 r.1)
unfolding next_byte
byte_then {f = f} then begins = bind_with byte_reader then none_left
  where
    none_left : (bytes : List ℕ) → next_byte bytes ≡ Err Short → Completion (λ bytes. next_byte bytes >>= λ r. f r.0 r.1) bytes
    none_left [] h = begins
    none_left (b ∷ bs) h = absurd (cc)

-- a value that takes no byte, and a refusal
pub ok_reader : {A : Type 0} (x : A) → IsReader (λ bytes. Ok (x, bytes))
unfolding with_rest
ok_reader {A = A} x = record {
  extends = λ bytes more y rest h. ap (λ (r : Read A). with_rest (λ l. l ++ more) r) h;
  stuck = λ bytes more h. absurd (cc);
  fronts = λ bytes y rest h. ([], ap (rest_of bytes) h, ap (λ (r : Read A). with_rest (λ l. []) r) h);
  completes = λ bytes h. absurd (cc);
}

pub begins_ok : {A : Type 0} (x : A) → Completion (λ bytes. Ok (x, bytes)) []
begins_ok x = record { more = []; octets = tt; value = x; reads = refl }

pub bad_reader : {A : Type 0} → IsReader (λ (bytes : List ℕ). let bad : Read A = Err Bad in bad)
bad_reader = record {
  extends = λ bytes more y rest h. absurd (cc);
  stuck = λ bytes more h. refl;
  fronts = λ bytes y rest h. absurd (cc);
  completes = λ bytes h. absurd (cc);
}

-- a choice that doesn't look at the bytes
pub if_reader : {A : Type 0} {p q : List ℕ → Read A} (test : Bool) → IsReader p → IsReader q → IsReader (λ bytes. cond test (p bytes) (q bytes))
if_reader true first second = first
if_reader false first second = second

number_front : (size : ℕ) (bytes more : List ℕ) → size ≤ length bytes
    → next_number size (bytes ++ more) ≡ Ok (from_le_bytes (width_of size) (take size bytes), drop size bytes ++ more)
unfolding next_number
number_front size bytes more h = grind (arith, common_steps)

-- a choice of the first or the second answer, by a test
choice : {A : Type 0} (short : Bool) (x : Read A) (y : Read A) → ((short ≡ false) × (cond short x y ≡ y)) ⊎ ((short ≡ true) × (cond short x y ≡ x))
choice true x y = inr (refl, refl)
choice false x y = inl (refl, refl)

number_cases : (size : ℕ) (bytes : List ℕ)
    → ((size ≤ length bytes) × (next_number size bytes ≡ Ok (from_le_bytes (width_of size) (take size bytes), drop size bytes)))
    ⊎ ((length bytes < size) × (next_number size bytes ≡ Err Short))
unfolding next_number
number_cases size bytes =
    let found : Read ℕ = Ok (from_le_bytes (width_of size) (take size bytes), drop size bytes) in
    elim (choice (nat_lt (length bytes) size) (Err Short) found) [
      | inl long ↦ inl (ltb-false (length bytes) size long.0, long.1)
      | inr short ↦ inr (ltb-true (length bytes) size short.0, short.1)
    ]

pub number_long : (size : ℕ) (bytes : List ℕ) (x : ℕ) (rest : List ℕ) → next_number size bytes ≡ Ok (x, rest)
    → (size ≤ length bytes) × (x ≡ from_le_bytes (width_of size) (take size bytes)) × (rest ≡ drop size bytes)
number_long size bytes x rest h = elim (number_cases size bytes) [
  | inl long ↦ (long.0, ap (value_of 0) (sym h ∙ long.1), ap (rest_of []) (sym h ∙ long.1))
  | inr short ↦ absurd (cc (h, short.1))
]

pub number_whole : (size : ℕ) (bytes : List ℕ) → size ≤ length bytes
    → next_number size (take size bytes) ≡ Ok (from_le_bytes (width_of size) (take size bytes), [])
unfolding next_number
number_whole size bytes h = grind (arith, common_steps)

number_short : (size : ℕ) (bytes : List ℕ) → next_number size bytes ≡ Err Short → length bytes ≤ size
number_short size bytes h = elim (number_cases size bytes) [
  | inl long ↦ absurd (cc (h, long.1))
  | inr short ↦ omega arith
]

zeros : ℕ → List ℕ
zeros zero = []
zeros (suc n) = 0 ∷ zeros n

length-zeros : (n : ℕ) → length (zeros n) ≡ n
unfolding zeros
length-zeros zero = refl
length-zeros (suc n) = omega (arith, length-zeros n)

octets-zeros : (n : ℕ) → AreOctets (zeros n)
unfolding zeros
octets-zeros zero = tt
octets-zeros (suc n) = (omega arith, octets-zeros n)

pub number_exact : (size : ℕ) (bytes : List ℕ) → length bytes ≡ size → next_number size bytes ≡ Ok (from_le_bytes (width_of size) bytes, [])
unfolding next_number
number_exact size bytes h = grind (arith, common_steps)

number_completion : (size : ℕ) (bytes : List ℕ) → length bytes ≤ size → Completion (next_number size) bytes
number_completion size bytes h =
    let more = zeros (size - length bytes) in
    let exact : length (bytes ++ more) ≡ size = omega (arith, length-append bytes more, length-zeros (size - length bytes)) in
    record {
      more = more;
      octets = octets-zeros (size - length bytes);
      value = from_le_bytes (width_of size) (bytes ++ more);
      reads = number_exact size (bytes ++ more) exact;
    }

pub begins_number : (size : ℕ) → Completion (next_number size) []
begins_number size = number_completion size [] (omega arith)

pub number_reader : (size : ℕ) → IsReader (next_number size)
number_reader size = record {
  extends = λ bytes more x rest h.
      let long = number_long size bytes x rest h in
      rw (long.1, long.2) (number_front size bytes more long.0);
  stuck = λ bytes more h. elim (number_cases size bytes) [
    | inl long ↦ absurd (cc (h, long.1))
    | inr short ↦ absurd (cc (h, short.1))
  ];
  fronts = λ bytes x rest h.
      let long = number_long size bytes x rest h in
      (take size bytes, rw long.2 (sym (take-append-drop size bytes)), rw long.1 (number_whole size bytes long.0));
  completes = λ bytes h. number_completion size bytes (number_short size bytes h);
}

-- what was read together with the number of its bytes

abbrev pub with_size : Operand → ℕ → Spelled
with_size operand size = record { operand = operand; size = size }

abbrev pub sized : ℕ → Operand × List ℕ → Read Spelled
sized n operand = Ok (with_size operand.0 (n - length operand.1), operand.1)

pub counted_ok : (read : List ℕ → Read Operand) (bytes : List ℕ) (operand : Operand) (rest : List ℕ) → read bytes ≡ Ok (operand, rest)
    → with_count read bytes ≡ Ok (with_size operand (length bytes - length rest), rest)
unfolding with_count
counted_ok read bytes operand rest h = rw h refl

settled : (bytes : List ℕ) (read : Read Operand) (operand : Operand) (tail : List ℕ) (x : Spelled) (rest : List ℕ) → read ≡ Ok (operand, tail)
    → sized (length bytes) (operand, tail) ≡ Ok (x, rest)
    → (operand' : Operand) × (read ≡ Ok (operand', rest)) × (x ≡ with_size operand' (length bytes - length rest))
settled bytes read operand tail x rest h k =
    let same : tail ≡ rest = ap (rest_of rest) k in (
      operand,
      h ∙ ap (λ (l : List ℕ). Ok (operand, l)) same,
      sym (ap (value_of x) k) ∙ ap (λ (l : List ℕ). with_size operand (length bytes - length l)) same,
    )

pub counted_parts : (read : List ℕ → Read Operand) (bytes : List ℕ) (x : Spelled) (rest : List ℕ) → with_count read bytes ≡ Ok (x, rest)
    → (operand : Operand) × (read bytes ≡ Ok (operand, rest)) × (x ≡ with_size operand (length bytes - length rest))
unfolding with_count
counted_parts read bytes x rest h =
    let parts = bind_ok (read bytes) (sized (length bytes)) (x, rest) h in
    settled bytes (read bytes) parts.0.0 parts.0.1 x rest parts.1 parts.2

refused : (n : ℕ) (read : Read Operand) (fault : Fault) → (read >>= sized n) ≡ Err fault → read ≡ Err fault
refused n (Ok x) fault h = absurd (cc)
refused n (Err e) fault h = let same : e ≡ fault = cc in ap (λ (e' : Fault). Err e') same

counted_refused : (read : List ℕ → Read Operand) (bytes : List ℕ) (fault : Fault) → with_count read bytes ≡ Err fault → read bytes ≡ Err fault
unfolding with_count
counted_refused read bytes fault h = refused (length bytes) (read bytes) fault h

counted_err : (read : List ℕ → Read Operand) (bytes : List ℕ) (fault : Fault) → read bytes ≡ Err fault → with_count read bytes ≡ Err fault
unfolding with_count
counted_err read bytes fault h = rw h refl

pub counted_completion : {read : List ℕ → Read Operand} (bytes : List ℕ) → Completion read bytes → Completion (with_count read) bytes
counted_completion {read = read} bytes one = let none : List ℕ = [] in record {
  more = one.more;
  octets = one.octets;
  value = with_size one.value (length (bytes ++ one.more) - length none);
  reads = counted_ok read (bytes ++ one.more) one.value [] one.reads;
}

counted_as : (read : List ℕ → Read Operand) (bytes : List ℕ) (operand : Operand) (rest : List ℕ) (n : ℕ) (x : Spelled)
    → read bytes ≡ Ok (operand, rest) → length bytes - length rest ≡ n → x ≡ with_size operand n → with_count read bytes ≡ Ok (x, rest)
unfolding with_count
counted_as read bytes operand rest n x h size e = rw (h, size, e) refl

counted_extends : (read : List ℕ → Read Operand) → IsReader read → (bytes more : List ℕ) (x : Spelled) (rest : List ℕ) (operand : Operand)
    → read bytes ≡ Ok (operand, rest) → x ≡ with_size operand (length bytes - length rest) → with_count read (bytes ++ more) ≡ Ok (x, rest ++ more)
counted_extends read first bytes more x rest operand h e =
    counted_as read (bytes ++ more) operand (rest ++ more) (length bytes - length rest) x (first.extends bytes more operand rest h)
    (omega (arith, length-append bytes more, length-append rest more)) e

counted_front : (read : List ℕ → Read Operand) (bytes front rest : List ℕ) (x : Spelled) (operand : Operand) → bytes ≡ front ++ rest
    → read front ≡ Ok (operand, []) → x ≡ with_size operand (length bytes - length rest) → with_count read front ≡ Ok (x, [])
counted_front read bytes front rest x operand split h e =
    let long : length bytes ≡ length front + length rest = ap length split ∙ length-append front rest in
    let none : List ℕ = [] in
    counted_as read front operand none (length bytes - length rest) x h (omega arith) e

pub counted_reader : {read : List ℕ → Read Operand} → IsReader read → IsReader (with_count read)
counted_reader {read = read} first = record {
  extends = λ bytes more x rest h.
      let read_parts = counted_parts read bytes x rest h in
      counted_extends read first bytes more x rest read_parts.0 read_parts.1 read_parts.2;
  stuck = λ bytes more h. counted_err read (bytes ++ more) Bad (first.stuck bytes more (counted_refused read bytes Bad h));
  fronts = λ bytes x rest h.
      let read_parts = counted_parts read bytes x rest h in
      let one = first.fronts bytes read_parts.0 rest read_parts.1 in
      (one.0, one.1, counted_front read bytes one.0 rest x read_parts.0 one.1 one.2 read_parts.2);
  completes = λ bytes h. counted_completion bytes (first.completes bytes (counted_refused read bytes Short h));
}
