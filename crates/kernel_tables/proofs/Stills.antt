-- What of a machine its steps keep.
use Rattle.std.proofs.Common.{◌≡◌, ◌≢◌, inl, inr, ℕ, ◌+◌, ◌<◌, ◌≤◌, ◌==◌, Bool, true, false, List, [], ◌∷◌, ◌++◌, length, map, refl, sym, ap, ◌∙◌, subst, arith}
use Rattle.std.proofs.lemmas.Bool.{cases_eq}
use Rattle.std.proofs.lemmas.List.{length-append}
use Rattle.vm_facts.specs.declared.entry.Entry.{Entry}
use Rattle.vm_facts.specs.declared.entry.Entry.TheVariants.{Ran, Hands}
use Rattle.flat_state.specs.Journal.{join_by, append_after, append}
use Rattle.vm_facts.specs.declared.page.Page.{Page}
use Rattle.vm_facts.specs.declared.page.Page.TheVariants.{Data, Stack, Text}
use Rattle.core_map.specs.declared.slot.Slot.{Slot as Token}
use Rattle.space_map.specs.Space.{Places}
use Rattle.page_model.specs.Holdings.{Holdings}
use Rattle.transfer_ring.specs.declared.transfer.Inbound.{Inbound}
use Rattle.transfer_ring.specs.declared.transfer.Source.{Source as From}
use Rattle.transfer_ring.specs.declared.transfer.Source.TheVariants as froms
use Rattle.transfer_ring.specs.declared.transfer.Transfer.{Transfer as Flight}
use Rattle.transfer_ring.specs.declared.transfer.Transfer.TheVariants as flights
use Rattle.page_model.specs.Pages.{numbered}
use Rattle.page_model.specs.Placement.{Source, space_number, image_in}
use Rattle.kernel_tables.specs.declared.tables.Tables.{Tables}
use Rattle.kernel_tables.specs.Shown.{space_shown}
use Rattle.kernel_tables.specs.Sourced.{ImageNamed, IsRangeOf, named_at, IsSourced, AreSourcedIn, IsFlightSourced, AreSourced}
use Rattle.kernel_tables.specs.View.{source_shown}
use Rattle.kernel_tables.specs.Machine.{image_at}
use Rattle.kernel_tables.proofs.Entries.{Head, head_of}
use Rattle.kernel_tables.proofs.Shows.{hit, miss}

-- a journal with one more entry isn't empty
ran_some : (b : Bool) (p m q n : ℕ) → join_by b p m q n ≢ []
ran_some true p m q n h = absurd cc
ran_some false p m q n h = absurd cc

behind_ran : (f : Entry) (j : List Entry) (q n : ℕ) → append_after f j (Ran q n) ≢ []
behind_ran (Ran p m) [] q n h = ran_some (p == q) p m q n h
behind_ran _ [] q n h = absurd cc
behind_ran f (g ∷ j) q n h = absurd cc

behind_hands : (f : Entry) (j : List Entry) (n : ℕ) → append_after f j (Hands n) ≢ []
behind_hands (Hands m) [] n h = absurd cc
behind_hands _ [] n h = absurd cc
behind_hands f (g ∷ j) n h = absurd cc

last_some : (j : List Entry) (e : Entry) → j ++ e ∷ [] ≢ []
last_some [] e h = absurd cc
last_some (f ∷ j) e h = absurd cc

pub append_some : (j : List Entry) (e : Entry) → append j e ≢ []
append_some [] (Ran q n) h = absurd cc
append_some (f ∷ j) (Ran q n) h = behind_ran f j q n h
append_some [] (Hands n) h = absurd cc
append_some (f ∷ j) (Hands n) h = behind_hands f j n h
append_some j e h = last_some j e h

-- a journal that fits, and has entries where it had
pub record Grown (old after : List Entry) (limit : ℕ) : Type 0 where
  pub within : length after ≤ limit
  pub some : after ≡ [] → old ≡ []

pub pushed : (old now after : List Entry) (e : Entry) (limit : ℕ) → now ≡ old → after ≡ now ++ e ∷ [] → length old < limit → Grown old after limit
pushed old now after e limit a b l =
    let x : length after ≡ length now + 1 = ap length b ∙ length-append now (e ∷ []) in
    let y : length now ≡ length old = ap length a in
    record { within = omega arith; some = λ h. absurd (let z : length after ≡ 0 = ap length h in omega arith) }

-- an entry that is appended, or joined to the last
pub appended : (old after : List Entry) (e : Entry) (limit : ℕ) → after ≡ append old e → length after ≤ limit → Grown old after limit
appended old after e limit a l = record { within = l; some = λ h. absurd (append_some old e (sym a ∙ h)) }

-- The images of the spaces go by their heads.

pub image_heads : (a b : List Token) (ss rs : List Places) (n : ℕ) → map head_of ss ≡ map head_of rs
    → image_in (numbered space_number n (map (space_shown a) ss)) ≡ image_in (numbered space_number n (map (space_shown b) rs))
image_heads a b [] [] n e = refl
image_heads a b [] (r ∷ rs) n e = absurd cc
image_heads a b (s ∷ ss) [] n e = absurd cc
image_heads a b (s ∷ ss) (r ∷ rs) n e =
    let x : head_of s ≡ head_of r = cc in
    let y : map head_of ss ≡ map head_of rs = cc in
    let same : s.sid ≡ r.sid = ap (λ (h : Head). h.sid) x in
    elim (cases_eq s.sid n) [
      | inl i ↦ ap image_in (hit n (space_shown a s) (map (space_shown a) ss) i) ∙ ap (λ (h : Head). h.image) x ∙ sym (ap image_in (hit n (space_shown b r) (map (space_shown b) rs) (sym same ∙ i)))
      | inr d ↦ ap image_in (miss n (space_shown a s) (map (space_shown a) ss) d) ∙ image_heads a b ss rs n y
          ∙ sym (ap image_in (miss n (space_shown b r) (map (space_shown b) rs) (λ i. d (same ∙ i))))
    ]

pub images_heads : (t w : Tables) → map head_of w.spaces ≡ map head_of t.spaces → (sid : ℕ) → image_at w sid ≡ image_at t sid
images_heads t w e sid = image_heads w.core.slots t.core.slots w.spaces t.spaces sid e

-- Sources stay where the images of the spaces do.

module _ (ns : List ImageNamed) (f g : ℕ → ℕ) (hs : Holdings) (size : ℕ) where
  one_still : (q : Page) (x : From) → ((sid : ℕ) → g sid ≡ f sid) → IsSourced ns f hs size q x → IsSourced ns g hs size q x
  one_still q (froms.Swap block) e h = h
  one_still (Data sid v) (froms.File id offset count) e h = subst (λ (i : ℕ). IsRangeOf (named_at ns i) false v id offset count) (sym (e sid)) h
  one_still (Stack sid v) (froms.File id offset count) e h = h
  one_still (Text i v) (froms.File id offset count) e h = h

  pub parts_still : (s : Source) (xs : List Inbound) → ((sid : ℕ) → g sid ≡ f sid) → AreSourcedIn ns f hs size s xs → AreSourcedIn ns g hs size s xs
  parts_still s [] e h = tt
  parts_still s (x ∷ xs) e h = (h.0, one_still x.page x.source e h.1, parts_still s xs e h.2)

  flight_still : (t : Flight) → ((sid : ℕ) → g sid ≡ f sid) → IsFlightSourced ns f hs size t → IsFlightSourced ns g hs size t
  flight_still (flights.Read demanded parts) e h = parts_still (source_shown parts.items) parts.items e h
  flight_still (flights.Write parts) e h = h

  pub sourced_still : (ts : List Flight) → ((sid : ℕ) → g sid ≡ f sid) → AreSourced ns f hs size ts → AreSourced ns g hs size ts
  sourced_still [] e h = tt
  sourced_still (t ∷ ts) e h = (flight_still t e h.0, sourced_still ts e h.1)

pub sourced_more : (ns : List ImageNamed) (f : ℕ → ℕ) (hs : Holdings) (size : ℕ) (ts : List Flight) (x : Flight) → AreSourced ns f hs size ts
    → IsFlightSourced ns f hs size x → AreSourced ns f hs size (ts ++ x ∷ [])
sourced_more ns f hs size [] x h n = (n, tt)
sourced_more ns f hs size (t ∷ ts) x h n = (h.0, sourced_more ns f hs size ts x h.1 n)
