-- Whether a space is settled, from what the ring and the text table answer.
use Rattle.std.proofs.Common.{◌≡◌, ◌≢◌, inl, inr, ℕ, ◌+◌, ◌<◌, ◌≤◌, ◌==◌, ◌&&◌, ◌||◌, not, Bool, true, false, List, [], ◌∷◌, ◌++◌, length, map, Option, Some, None, refl, sym, ap, ◌∙◌, subst, arith}
use Rattle.std.specs.List.{list_any}
use Rattle.std.proofs.lemmas.Bool.{cases_eq}
use Rattle.std.proofs.lemmas.Bool.Decides.{nat_tests}
use Rattle.vm_facts.specs.declared.page.Page.{Page}
use Rattle.aout_image.specs.declared.Image.{Image}
use Rattle.core_map.specs.declared.slot.Slot.{Slot as Token}
use Rattle.space_map.specs.Space.{Places}
use Rattle.transfer_ring.specs.declared.transfer.Owner.{Owner}
use Rattle.transfer_ring.specs.declared.transfer.Owner.TheVariants as whose
use Rattle.transfer_ring.specs.declared.transfer.Inbound.{Inbound}
use Rattle.transfer_ring.specs.declared.transfer.Outbound.{Outbound}
use Rattle.transfer_ring.specs.declared.transfer.Transfer.{Transfer as Flight}
use Rattle.transfer_ring.specs.declared.transfer.Transfer.TheVariants as flights
use Rattle.transfer_ring.specs.Naming.{is_page_of, names_page_of, names_space, names_text}
use Rattle.page_model.specs.Pages.{numbered}
use Rattle.page_model.specs.Placement.{Errand, Moving, moving, parts_of, space_number, image_in, image_of, sharers, sharers_in}
use Rattle.page_model.specs.Swapper.{names_page, is_settled}
use Rattle.vm_facts.specs.Pages.{is_of_space, is_of_text}
use Rattle.kernel_tables.specs.declared.tables.Tables.{Tables}
use Rattle.kernel_tables.specs.Shown.{space_shown}
use Rattle.kernel_tables.specs.Alike.{EachSpace, IsFilled}
use Rattle.kernel_tables.specs.Tied.{Tied}
use Rattle.kernel_tables.specs.View.{in_part, out_part, transfer_shown, placement_of}
use Rattle.kernel_tables.specs.Machine.{lists_of, image_at}
use Rattle.kernel_tables.specs.Settled.{image_found}
use Rattle.kernel_tables.proofs.Shows.{hit, miss}
use Rattle.kernel_tables.proofs.AddedTied.{facts_number}

or_assoc : (a b c : Bool) → ((a || b) || c) ≡ (a || (b || c))
or_assoc true b c = refl
or_assoc false b c = refl

names_append : (test : Page → Bool) (xs ys : List Moving) → names_page test (xs ++ ys) ≡ (names_page test xs || names_page test ys)
names_append test [] ys = refl
names_append test (x ∷ xs) ys = ap (λ (b : Bool). test x.page || b) (names_append test xs ys) ∙ sym (or_assoc (test x.page) (names_page test xs) (names_page test ys))

in_names : (o : Owner) (test : Page → Bool) (e : Errand) (xs : List Inbound) → ((q : Page) → is_page_of o q ≡ test q)
    → list_any (λ (x : Inbound). is_page_of o x.page) xs ≡ names_page test (map (moving e) (map in_part xs))
in_names o test e [] h = refl
in_names o test e (x ∷ xs) h = ap (λ (b : Bool). b || list_any (λ (y : Inbound). is_page_of o y.page) xs) (h x.page) ∙ ap (λ (b : Bool). test x.page || b) (in_names o test e xs h)

out_names : (o : Owner) (test : Page → Bool) (e : Errand) (xs : List Outbound) → ((q : Page) → is_page_of o q ≡ test q)
    → list_any (λ (x : Outbound). is_page_of o x.page) xs ≡ names_page test (map (moving e) (map out_part xs))
out_names o test e [] h = refl
out_names o test e (x ∷ xs) h = ap (λ (b : Bool). b || list_any (λ (y : Outbound). is_page_of o y.page) xs) (h x.page) ∙ ap (λ (b : Bool). test x.page || b) (out_names o test e xs h)

one_names : (o : Owner) (test : Page → Bool) (t : Flight) → ((q : Page) → is_page_of o q ≡ test q)
    → names_page_of o t ≡ names_page test (map (moving (transfer_shown t).errand) (transfer_shown t).parts)
one_names o test (flights.Read demanded parts) h = in_names o test (transfer_shown (flights.Read demanded parts)).errand parts.items h
one_names o test (flights.Write parts) h = out_names o test (transfer_shown (flights.Write parts)).errand parts.items h

ring_names : (o : Owner) (test : Page → Bool) (ts : List Flight) → ((q : Page) → is_page_of o q ≡ test q)
    → list_any (names_page_of o) ts ≡ names_page test (parts_of (map transfer_shown ts))
ring_names o test [] h = refl
ring_names o test (t ∷ ts) h =
    ap (λ (b : Bool). b || list_any (names_page_of o) ts) (one_names o test t h)
    ∙ ap (λ (b : Bool). names_page test (map (moving (transfer_shown t).errand) (transfer_shown t).parts) || b) (ring_names o test ts h)
    ∙ sym (names_append test (map (moving (transfer_shown t).errand) (transfer_shown t).parts) (parts_of (map transfer_shown ts)))

-- The image of the space.

abbrev pub or_zero : Option ℕ → ℕ
or_zero None = 0
or_zero (Some n) = n

pub found_hit : (s : Places) (ss : List Places) (sid : ℕ) → s.sid ≡ sid → image_found (s ∷ ss) sid ≡ Some s.image
found_hit s ss sid e = grind (arith, nat_tests)

pub found_miss : (s : Places) (ss : List Places) (sid : ℕ) → s.sid ≢ sid → image_found (s ∷ ss) sid ≡ image_found ss sid
found_miss s ss sid e = grind (arith, nat_tests)

found_is : (slots : List Token) (ss : List Places) (sid : ℕ) → image_in (numbered space_number sid (map (space_shown slots) ss)) ≡ or_zero (image_found ss sid)
found_is slots [] sid = refl
found_is slots (s ∷ ss) sid = elim (cases_eq s.sid sid) [
  | inl e ↦ ap image_in (hit sid (space_shown slots s) (map (space_shown slots) ss) e) ∙ sym (ap or_zero (found_hit s ss sid e))
  | inr d ↦ ap image_in (miss sid (space_shown slots s) (map (space_shown slots) ss) d) ∙ found_is slots ss sid ∙ sym (ap or_zero (found_miss s ss sid d))
]

pub found_image : (t : Tables) (sid i : ℕ) → image_found t.spaces sid ≡ Some i → image_at t sid ≡ i
found_image t sid i e = found_is t.core.slots t.spaces sid ∙ ap or_zero e

pub lost_image : (t : Tables) (sid : ℕ) → image_found t.spaces sid ≡ None → image_at t sid ≡ 0
lost_image t sid e = found_is t.core.slots t.spaces sid ∙ ap or_zero e

found_low : (facts : List Image) (ss : List Places) (sid i : ℕ) → EachSpace (IsFilled facts) ss → image_found ss sid ≡ Some i → (1 ≤ i) × (i < 1 + length facts)
found_low facts [] sid i h e = absurd cc
found_low facts (s ∷ ss) sid i h e = elim (cases_eq s.sid sid) [
  | inl k ↦ let same : s.image ≡ i = (let x : Some s.image ≡ Some i = sym (found_hit s ss sid k) ∙ e in cc) in
      subst (λ (n : ℕ). (1 ≤ n) × (n < 1 + length facts)) same (facts_number 1 s.image facts s.facts h.0.facts_are)
  | inr d ↦ found_low facts ss sid i h.1 (sym (found_miss s ss sid d) ∙ e)
]

pub image_range : (t : Tables) (sid i : ℕ) → Tied (lists_of t) → image_found t.spaces sid ≡ Some i → (1 ≤ i) × (i ≤ 16)
image_range t sid i k e =
    let h = found_low (lists_of t).facts t.spaces sid i k.filled e in
    let a = h.0 in
    let b = h.1 in
    let c = k.few_images in
    (omega arith, omega arith)

none_shares : (facts : List Image) (slots : List Token) (ss : List Places) → EachSpace (IsFilled facts) ss → sharers_in 0 (map (space_shown slots) ss) ≡ 0
none_shares facts slots [] h = refl
none_shares facts slots (s ∷ ss) h =
    let skip : s.image ≢ 0 → sharers_in 0 (map (space_shown slots) (s ∷ ss)) ≡ sharers_in 0 (map (space_shown slots) ss) = λ d. grind (arith, nat_tests) in
    let l = facts_number 1 s.image facts s.facts h.0.facts_are in
    let a = l.0 in
    skip (omega arith) ∙ none_shares facts slots ss h.1

-- The answers.

pub settled_names : (t : Tables) (sid : ℕ) → list_any (names_space sid) t.ring ≡ true → is_settled (placement_of (lists_of t)) sid ≡ false
settled_names t sid e =
    ap (λ (b : Bool). not b && not ((sharers (placement_of (lists_of t)) (image_of (placement_of (lists_of t)) sid) == 1)
    && names_page (is_of_text (image_of (placement_of (lists_of t)) sid)) (parts_of (map transfer_shown t.ring))))
    (sym (ring_names (whose.Space sid) (is_of_space sid) t.ring (λ q. refl)) ∙ e)

settled_rest : (t : Tables) (sid : ℕ) → list_any (names_space sid) t.ring ≡ false
    → is_settled (placement_of (lists_of t)) sid ≡ not ((sharers (placement_of (lists_of t)) (image_of (placement_of (lists_of t)) sid) == 1)
    && names_page (is_of_text (image_of (placement_of (lists_of t)) sid)) (parts_of (map transfer_shown t.ring)))
settled_rest t sid e =
    ap (λ (b : Bool). not b && not ((sharers (placement_of (lists_of t)) (image_of (placement_of (lists_of t)) sid) == 1)
    && names_page (is_of_text (image_of (placement_of (lists_of t)) sid)) (parts_of (map transfer_shown t.ring))))
    (sym (ring_names (whose.Space sid) (is_of_space sid) t.ring (λ q. refl)) ∙ e)

pub settled_none : (t : Tables) (sid : ℕ) → Tied (lists_of t) → list_any (names_space sid) t.ring ≡ false → image_found t.spaces sid ≡ None
    → is_settled (placement_of (lists_of t)) sid ≡ true
settled_none t sid k e m =
    settled_rest t sid e
    ∙ ap (λ (i : ℕ). not ((sharers (placement_of (lists_of t)) i == 1) && names_page (is_of_text i) (parts_of (map transfer_shown t.ring)))) (found_is t.core.slots t.spaces sid ∙ ap or_zero m)
    ∙ ap (λ (n : ℕ). not ((n == 1) && names_page (is_of_text 0) (parts_of (map transfer_shown t.ring)))) (none_shares (lists_of t).facts t.core.slots t.spaces k.filled)

pub settled_text : (t : Tables) (sid i count : ℕ) → Tied (lists_of t) → list_any (names_space sid) t.ring ≡ false → image_found t.spaces sid ≡ Some i
    → count ≡ (Rattle.text_table.specs.Texts.text_numbered t.texts i).sharers
    → is_settled (placement_of (lists_of t)) sid ≡ not ((count == 1) && list_any (names_text i) t.ring)
settled_text t sid i count k e m c =
    let r = image_range t sid i k m in
    settled_rest t sid e
    ∙ ap (λ (j : ℕ). not ((sharers (placement_of (lists_of t)) j == 1) && names_page (is_of_text j) (parts_of (map transfer_shown t.ring)))) (found_is t.core.slots t.spaces sid ∙ ap or_zero m)
    ∙ ap (λ (n : ℕ). not ((n == 1) && names_page (is_of_text i) (parts_of (map transfer_shown t.ring)))) (sym (k.counted i r.0 r.1) ∙ sym c)
    ∙ ap (λ (b : Bool). not ((count == 1) && b)) (sym (ring_names (whose.Image i) (is_of_text i) t.ring (λ q. refl)))
