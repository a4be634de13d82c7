-- The pieces of the next space, in which an image starts.
use Rattle.std.proofs.Common.{◌≡◌, ◌≢◌, inl, inr, ℕ, zero, suc, ◌+◌, ◌-◌, ◌*◌, ◌<◌, ◌≤◌, ◌==◌, Bool, true, false, List, [], ◌∷◌, ◌++◌, length, refl, sym, ap, ◌∙◌, subst, arith}
use Rattle.std.specs.Prelude.{slice_index_or, Result, Ok, Err, IfOk, IfErr, is_ok, is_some, nat_lt, cond, map, slice_get, Option, Some, None}
use Rattle.std.proofs.lemmas.Bool.{cases_eq, eq-eqb, ne_eqb, lt-ltb, ltb-true, ltb-false}
use Rattle.std.proofs.lemmas.List.{append-nil, length-map}
use Rattle.std.proofs.lemmas.Option.{same_Some}
use Rattle.std.proofs.Math.Nat.{mul-mod_right}
use Rattle.vm_facts.specs.SwapImages.{SwapImage}
use Rattle.io_edge.specs.FileHolding.{NamedFile}
use Rattle.vm_facts.specs.declared.stop.Stop.{Stop}
use Rattle.vm_facts.specs.declared.page.Page.TheVariants.{Text}
use Rattle.aout_image.specs.declared.Image.{Image}
use Rattle.aout_image.specs.Image.{text_pages_of, image_data_pages}
use Rattle.swap_dmap.specs.Chunks.{pieces, text_pieces}
use Rattle.swap_book.specs.declared.Owner.TheVariants as owners
use Rattle.swap_book.specs.Holdings.{Holdings, of_owner, lengths}
use Rattle.swap_book.specs.Placing.{Wanted, wanted, more_pieces, place_all}
use Rattle.swap_book.proofs.OwnerLaws.{no_pieces}
use Rattle.flat_state.specs.Numbers.{AllDistinct}
use Rattle.page_model.specs.Pages.{SpacePages, numbered, data_in, stack_in}
use Rattle.page_model.specs.Placement.{Placement, slots_of, sharers, sharers_in, space_number}
use Rattle.page_model.specs.Place.{facts_numbered}
use Rattle.page_model.specs.Ownership.{text_pieces_while}
use Rattle.page_laws.proofs.Lists.Pages.{numbered_hit, numbered_miss}
use Rattle.proc_table.specs.Records.{Lowest}
use Rattle.kernel_model.specs.Kernel.{Kernel}
use Rattle.kernel_model.specs.Sound.{Sound}
use Rattle.kernel_model.specs.Numbers.{Numbered}
use Rattle.kernel_model.specs.Asks.{text_asked, image_pieces, image_asked}
use Rattle.machine_state.proofs.Numbered.{absent_none}
use Rattle.machine_state.proofs.KernelLawsSoundAllowed.{new_number}
use Rattle.machine_state.specs.Want.{Want}
use Rattle.machine_state.specs.Going.{CanGoOn}
use Rattle.machine_state.specs.Named.{Named}
use Rattle.machine_state.specs.Machine.{Standing, image_shown}
use Rattle.machine_state.specs.Sourced.{ImageNamed, named_at}
use Rattle.machine_state.specs.Applying.{facts_named}
use Rattle.machine_state.specs.Sharing.{IsSharer}
use Rattle.machine_state.specs.Wants.{CanAsk, wanted_of}
use Rattle.machine_state.proofs.FirstPieces.{want, none_held, all_more, nil_of, no_want}
use Rattle.proc_calls.specs.Starting.{image_wanted, image_found, wants_found, FindsBy, Finds, StopsFinding, is_shared, three_wants, AreNextWants}
use Rattle.proc_calls.proofs.Callers.{sound_now}
use Rattle.proc_calls.proofs.Starts.{IsReady, is_ready}

-- Who shares an image's text.

none_some : {A : Type 0} {B : Type 0} (x : A) → (let o : Option A = None in o) ≡ Some x → B
none_some x e = absurd cc

more_first : (b : Bool) (n : ℕ) → b ≡ true → 0 < cond b 1 0 + n
more_first true n e = omega arith
more_first false n e = absurd cc

no_first : (b : Bool) (n : ℕ) → b ≡ false → n ≡ 0 → cond b 1 0 + n ≡ 0
no_first true n e z = absurd cc
no_first false n e z = omega (arith, z)

more_later : (m n : ℕ) → 0 < n → 0 < m + n
more_later m n l = omega arith

some_shares : (image sid : ℕ) (ss : List SpacePages) (x : SpacePages) → numbered space_number sid ss ≡ Some x → x.image ≡ image → 0 < sharers_in image ss
some_shares image sid [] x e i = none_some x e
some_shares image sid (s ∷ ss) x e i = elim (cases_eq (space_number s) sid) [
  | inl h ↦ more_first (s.image == image) (sharers_in image ss)
      (eq-eqb s.image image (ap (λ (y : SpacePages). y.image) (same_Some s x (sym (numbered_hit space_number sid s ss h) ∙ e)) ∙ i))
  | inr d ↦ more_later (cond (s.image == image) 1 0) (sharers_in image ss) (some_shares image sid ss x (sym (numbered_miss space_number sid s ss d) ∙ e) i)
]

none_shares : (image : ℕ) (ss : List SpacePages) → AllDistinct (map space_number ss)
    → ((sid : ℕ) (x : SpacePages) → numbered space_number sid ss ≡ Some x → x.image ≡ image → ⊥) → sharers_in image ss ≡ 0
none_shares image [] d h = refl
none_shares image (s ∷ ss) d h =
    let other : s.image ≢ image = λ i. h (space_number s) s (numbered_hit space_number (space_number s) s ss refl) i in
    no_first (s.image == image) (sharers_in image ss) (ne_eqb s.image image other)
    (none_shares image ss d.1 (λ sid x e i. elim (cases_eq (space_number s) sid) [
      | inl same ↦ none_some x (sym (absent_none space_number (space_number s) ss d.0) ∙ ap (λ (n : ℕ). numbered space_number n ss) same ∙ e)
      | inr apart ↦ h sid x (numbered_miss space_number sid s ss apart ∙ e) i
    ]))

pub shared_by : (p : Placement) (image : ℕ) (o : Option ℕ) → AllDistinct (map space_number p.spaces) → Lowest (IsSharer p image) o
    → is_some o ≡ is_shared p image
shared_by p image None d l =
    sym (ap (λ (n : ℕ). nat_lt 0 n) (none_shares image p.spaces d (λ sid x e i. l sid (record { space = x; there = e; shares = i }))))
shared_by p image (Some sid) d l = sym (lt-ltb 0 (sharers p image) (some_shares image sid p.spaces l.0.space l.0.there l.0.shares))

-- The image.

at_index : (xs : List Named) (i : ℕ) (d : Named) → i < length xs → slice_get (map image_shown xs) i ≡ Some (image_shown (slice_index_or xs i d))
at_index [] i d l = absurd (omega arith)
at_index (x ∷ xs) zero d l = refl
at_index (x ∷ xs) (suc i) d l = at_index xs i d (omega arith)

named_shown : (xs : List Named) (image : ℕ) (d : Named) → 0 < image → image ≤ length xs
    → named_at (map image_shown xs) image ≡ Some (image_shown (slice_index_or xs (image - 1) d))
named_shown xs zero d l m = absurd (omega arith)
named_shown xs (suc i) d l m =
    at_index xs i d (omega arith) ∙ ap (λ (k : ℕ). Some (image_shown (slice_index_or xs k d))) (let z : i ≡ suc i - 1 = omega arith in z)

pub named_there : (images : List ImageNamed) (xs : List Named) (image : ℕ) (d : Named) → map image_shown xs ≡ images → 0 < image → image ≤ length images
    → named_at images image ≡ Some (image_shown (slice_index_or xs (image - 1) d))
named_there images xs image d e l m =
    let size : length xs ≡ length images = sym (length-map xs image_shown) ∙ ap (λ (ns : List ImageNamed). length ns) e in
    sym (ap (λ (ns : List ImageNamed). named_at ns image) e) ∙ named_shown xs image d l (omega (arith, m, size))

facts_at : (images : List ImageNamed) (i : ℕ) (n : ImageNamed) → slice_get images i ≡ Some n → slice_get (facts_named images) i ≡ Some n.facts
facts_at [] i n e = none_some n e
facts_at (x ∷ xs) zero n e = ap (λ (o : ImageNamed). Some o.facts) (same_Some x n e)
facts_at (x ∷ xs) (suc i) n e = facts_at xs i n e

pub facts_of_named : (images : List ImageNamed) (image : ℕ) (n : ImageNamed) → named_at images image ≡ Some n
    → facts_numbered (facts_named images) image ≡ Some n.facts
facts_of_named images zero n e = none_some n e
facts_of_named images (suc i) n e = facts_at images i n e

-- What it wants.

-- the next space holds nothing, nor does a text that nobody shares
record HoldsNone (p : Placement) (hs : Holdings) (sid image : ℕ) : Type 0 where
  of_data : lengths (owners.Data sid) hs ≡ []
  of_stack : lengths (owners.Stack sid) hs ≡ []
  of_text : sharers p image ≡ 0 → lengths (owners.Text image) hs ≡ []

holds_none : (size : ℕ) (k : Kernel) (image : ℕ) → Sound size k → Numbered k → HoldsNone k.place k.holdings k.next_sid image
holds_none size k image s n =
    let o = s.owner.blocks in
    let new = new_number k n in
    record {
      of_data = o.data_held k.next_sid ∙ ap (λ (x : Option SpacePages). pieces (2 * length (data_in x))) new ∙ no_pieces (owners.Data k.next_sid);
      of_stack = o.stack_held k.next_sid ∙ ap (λ (x : Option SpacePages). pieces (2 * length (stack_in x))) new ∙ no_pieces (owners.Stack k.next_sid);
      of_text = λ z. o.text_held image ∙ ap (λ (n : ℕ). text_pieces_while n (2 * length (slots_of k.place (Text image 0)))) z;
    }

abbrev pub all_asked : List Want → List Want
all_asked rs = slice_index_or rs 0 no_want ∷ slice_index_or rs 1 no_want ∷ slice_index_or rs 2 no_want ∷ []

abbrev pub own_asked : List Want → List Want
own_asked rs = slice_index_or rs 1 no_want ∷ slice_index_or rs 2 no_want ∷ []

abbrev own_wants : ℕ → Image → List Want
own_wants sid facts = want (owners.Data sid) (2 * image_data_pages facts) ∷ want (owners.Stack sid) 2 ∷ []

own_asks : (p : Placement) (hs : Holdings) (sid image : ℕ) (facts : Image) → HoldsNone p hs sid image
    → wanted_of hs (own_wants sid facts) ≡ wanted (owners.Data sid) (pieces (2 * image_data_pages facts)) ++ wanted (owners.Stack sid) (pieces 2)
own_asks p hs sid image facts h =
    let d : List Wanted = wanted (owners.Data sid) (pieces (2 * image_data_pages facts)) in
    ap (λ (l : List Wanted). l ++ (more_pieces hs (owners.Stack sid) 2 ++ [])) (all_more hs (owners.Data sid) (2 * image_data_pages facts) h.of_data)
    ∙ ap (λ (l : List Wanted). d ++ l) (append-nil (more_pieces hs (owners.Stack sid) 2) ∙ all_more hs (owners.Stack sid) 2 h.of_stack)

abbrev pieces_by : Placement → ℕ → ℕ → ℕ → Image → List Wanted
pieces_by p n sid image facts =
    text_asked n image (2 * length (slots_of p (Text image 0))) ++ (wanted (owners.Data sid) (pieces (2 * image_data_pages facts)) ++ wanted (owners.Stack sid) (pieces 2))

module _ (p : Placement) (hs : Holdings) (sid image : ℕ) (facts : Image) where
  asks_shared : HoldsNone p hs sid image → 0 < sharers p image → wanted_of hs (own_wants sid facts) ≡ image_pieces p sid image facts
  asks_shared h l = own_asks p hs sid image facts h ∙ go (sharers p image) refl l
    where
      go : (n : ℕ) → sharers p image ≡ n → 0 < n → pieces_by p 1 sid image facts ≡ pieces_by p (sharers p image) sid image facts
      go zero e m = absurd (omega arith)
      go (suc n) e m = ap (λ (k : ℕ). pieces_by p k sid image facts) (sym e)

  asks_first : HoldsNone p hs sid image → sharers p image ≡ 0
      → text_pages_of facts ≡ length (slots_of p (Text image 0)) → wanted_of hs (three_wants sid image facts) ≡ image_pieces p sid image facts
  asks_first h none size =
      let t : List Wanted = wanted (owners.Text image) (text_pieces (2 * length (slots_of p (Text image 0)))) in
      ap (λ (l : List Wanted). l ++ wanted_of hs (own_wants sid facts))
      (all_more hs (owners.Text image) (2 * text_pages_of facts) (h.of_text none) ∙ ap (λ (n : ℕ). wanted (owners.Text image) (text_pieces (2 * n))) size)
      ∙ ap (λ (l : List Wanted). t ++ l) (own_asks p hs sid image facts h)
      ∙ ap (λ (k : ℕ). pieces_by p k sid image facts) (sym none)

  can_three : HoldsNone p hs sid image → sharers p image ≡ 0 → CanAsk hs (three_wants sid image facts)
  can_three h none = record {
    differ = (((λ e. cc), ((λ e. cc), tt)), (((λ e. cc), tt), (tt, tt)));
    each = ((mul-mod_right 2 (text_pages_of facts), nil_of (of_owner (owners.Text image) hs) (none_held hs (owners.Text image) (h.of_text none))), (tt, (tt, tt)));
  }

module _ (m : Standing) (image : ℕ) (ws : List Want) (on : CanGoOn m) (next : AreNextWants m image ws) where
  none : HoldsNone m.kernel.place m.kernel.holdings m.kernel.next_sid image
  none = holds_none m.params.swap_blocks m.kernel image (sound_now m on) on.running.numbered

  facts_are : image_wanted m image ≡ image_pieces m.kernel.place m.kernel.next_sid image next.named.facts
  facts_are = ap (image_asked m.kernel.place m.kernel.next_sid image) (facts_of_named m.images image next.named next.is)

  pub shared_asks : is_shared m.kernel.place image ≡ true → wanted_of m.kernel.holdings (own_asked ws) ≡ image_wanted m image
  shared_asks s =
      ap (λ (rs : List Want). wanted_of m.kernel.holdings (own_asked rs)) next.are
      ∙ asks_shared m.kernel.place m.kernel.holdings m.kernel.next_sid image next.named.facts none (ltb-true 0 (sharers m.kernel.place image) s)
      ∙ sym facts_are

  nobody : is_shared m.kernel.place image ≡ false → sharers m.kernel.place image ≡ 0
  nobody s = let l = ltb-false 0 (sharers m.kernel.place image) s in omega (arith, l)

  pub first_asks : is_shared m.kernel.place image ≡ false → wanted_of m.kernel.holdings (all_asked ws) ≡ image_wanted m image
  first_asks s =
      ap (λ (rs : List Want). wanted_of m.kernel.holdings (all_asked rs)) next.are
      ∙ asks_first m.kernel.place m.kernel.holdings m.kernel.next_sid image next.named.facts none (nobody s) (sym (on.running.texts image next.named next.is))
      ∙ sym facts_are

  pub first_can : is_shared m.kernel.place image ≡ false → CanAsk m.kernel.holdings (all_asked ws)
  first_can s =
      subst (λ (rs : List Want). CanAsk m.kernel.holdings (all_asked rs)) (sym next.are)
      (can_three m.kernel.place m.kernel.holdings m.kernel.next_sid image next.named.facts none (nobody s))

-- What is asked for stays while the machine waits.

abbrev wanted_by : Placement → ℕ → ℕ → ℕ → ℕ → Option Image → List Wanted
wanted_by p n t sid image None = []
wanted_by p n t sid image (Some facts) =
    text_asked n image (2 * t) ++ (wanted (owners.Data sid) (pieces (2 * image_data_pages facts)) ++ wanted (owners.Stack sid) (pieces 2))

by_counts : (p : Placement) (sid image : ℕ) (o : Option Image)
    → image_asked p sid image o ≡ wanted_by p (sharers p image) (length (slots_of p (Text image 0))) sid image o
by_counts p sid image None = refl
by_counts p sid image (Some facts) = refl

no_place : (p q : Placement) (n t sid image : ℕ) (o : Option Image) → wanted_by p n t sid image o ≡ wanted_by q n t sid image o
no_place p q n t sid image None = refl
no_place p q n t sid image (Some facts) = refl

pub wanted_stays : (m n : Standing) (image : ℕ) → IsReady m n → image_wanted n image ≡ image_wanted m image
wanted_stays m n image r =
    let o : Option Image = facts_numbered (facts_named m.images) image in
    let p : Placement = m.kernel.place in
    ap (λ (ns : List ImageNamed). image_asked n.kernel.place n.kernel.next_sid image (facts_numbered (facts_named ns) image)) r.images
    ∙ by_counts n.kernel.place n.kernel.next_sid image o
    ∙ ap (λ (c : ℕ). wanted_by n.kernel.place c (length (slots_of n.kernel.place (Text image 0))) n.kernel.next_sid image o) (r.kernel.sharing image)
    ∙ ap (λ (c : ℕ). wanted_by n.kernel.place (sharers p image) c n.kernel.next_sid image o) (r.kernel.texts image)
    ∙ ap (λ (c : ℕ). wanted_by n.kernel.place (sharers p image) (length (slots_of p (Text image 0))) c image o) r.kernel.number
    ∙ no_place n.kernel.place p (sharers p image) (length (slots_of p (Text image 0))) m.kernel.next_sid image o
    ∙ sym (by_counts p m.kernel.next_sid image o)

by_wants : (fits : Bool) (m n : Standing) (pid image : ℕ) (ws : List Want) (holds : Option (List NamedFile)) (before after : Option SwapImage)
    → wanted_of m.kernel.holdings ws ≡ image_wanted m image → FindsBy fits (wants_found ws) m n pid holds before after
    → FindsBy fits (image_found image) m n pid holds before after
by_wants false m n pid image ws holds before after e f = f
by_wants true m n pid image ws holds before after e f =
    let r : IsReady m f.between = is_ready m f.between pid holds before after f.left in
    let same : wanted_of f.between.kernel.holdings ws ≡ image_wanted f.between image =
    ap (λ (hs : Holdings). wanted_of hs ws) r.kernel.holdings ∙ e ∙ sym (wanted_stays m f.between image r) in
    record {
      between = f.between;
      left = f.left;
      found = f.found;
      finds = ap (place_all f.between.params.swap_blocks f.between.kernel.holdings) (sym same) ∙ f.finds;
      step = f.step;
    }

pub finds : (r : Result Bool Stop) (m n : Standing) (pid image : ℕ) (ws : List Want) (holds : Option (List NamedFile)) (before after : Option SwapImage)
    → wanted_of m.kernel.holdings ws ≡ image_wanted m image → IfOk r (λ fits. Finds (wants_found ws) fits m n pid holds before after)
    → IfOk r (λ fits. Finds (image_found image) fits m n pid holds before after)
finds (Err stop) m n pid image ws holds before after e f = tt
finds (Ok fits) m n pid image ws holds before after e f = record {
  answer = f.answer ∙ ap (λ (l : List Wanted). is_ok (place_all m.params.swap_blocks m.kernel.holdings l)) e;
  finds = by_wants fits m n pid image ws holds before after e f.finds;
}

-- where the run stops as they are looked for, it stops as those of the image are
pub finding_stops : (r : Result Bool Stop) (m n : Standing) (pid image : ℕ) (ws : List Want) (holds : Option (List NamedFile)) (before after : Option SwapImage)
    → wanted_of m.kernel.holdings ws ≡ image_wanted m image → IfErr r (StopsFinding (wants_found ws) m n pid holds before after)
    → IfErr r (StopsFinding (image_found image) m n pid holds before after)
finding_stops (Ok fits) m n pid image ws holds before after e h = tt
finding_stops (Err stop) m n pid image ws holds before after e h = elim h [
  | inl y ↦ inl y
  | inr y ↦ inr (sym (ap (λ (l : List Wanted). is_ok (place_all m.params.swap_blocks m.kernel.holdings l)) e) ∙ y.0, y.1)
]
