-- A space is given up: its pages are forgotten, it goes with its pieces, and with the last space that shares it its
-- image's text is left.
use Rattle.std.proofs.Common.{◌≡◌, ℕ, zero, suc, ◌<◌, ◌≤◌, List, [], ◌∷◌, length, map, slice_get, option_map, Option, Some, None, refl, sym, ap, ◌∙◌, subst, arith}
use Rattle.std.proofs.lemmas.Option.{same_Some}
use Rattle.vm_facts.specs.declared.page.Page.{Page}
use Rattle.vm_facts.specs.declared.page.Page.TheVariants.{Text}
use Rattle.aout_image.specs.Image.{text_pages_of}
use Rattle.core_map.specs.Frames.{Frames, IsSoundMap}
use Rattle.space_map.specs.Space.{Places}
use Rattle.text_table.specs.Texts.{Text as SharedText, text_numbered, table_with_text, left}
use Rattle.swap_book.specs.declared.Owner.TheVariants as owners
use Rattle.swap_book.specs.Holdings.{Holdings, kept}
use Rattle.swap_book.specs.Book.{Book, with_holdings}
use Rattle.flat_state.specs.Numbers.{IsAbsent}
use Rattle.page_model.specs.Pages.{numbered}
use Rattle.page_model.specs.Placement.{Placement, state_of, image_in, image_of, sharers, sharers_in}
use Rattle.page_model.specs.Moves.{drop_all}
use Rattle.page_model.specs.Place.{pages_of_space, remove_space, leave_text, give_up, data_count, stack_count, data_from, stack_from}
use Rattle.page_model.specs.Conditions.{EachPage, AtRest, IsSettled, CanForget}
use Rattle.page_model.specs.Ownership.{OwnsFrames, TextAside}
use Rattle.page_laws.proofs.Lists.Runs.{each_page_append}
use Rattle.page_laws.proofs.Ownership.Changes.{give_up_owner}
use Rattle.page_laws.proofs.Blocks.Changes.{give_up_aside, rest_drop_all}
use Rattle.kernel_model.specs.Asks.{HasSpace}
use Rattle.kernel_model.specs.ChangeStep.{space_given_back, text_given_back}
use Rattle.kernel_tables.specs.declared.tables.Tables.{Tables}
use Rattle.kernel_tables.specs.Shown.{space_shown}
use Rattle.kernel_tables.specs.Rising.{sids_of, StandsAt}
use Rattle.kernel_tables.specs.View.{Lists, placement_of, frames_of}
use Rattle.kernel_tables.specs.Machine.{lists_of, image_at}
use Rattle.kernel_tables.specs.Known.{Known}
use Rattle.kernel_tables.specs.Gone.{without_space, sharing, LeftText, HasWholeText, left_by, text_left_by}
use Rattle.kernel_tables.specs.Changing.{Dropped, GaveUp}
use Rattle.kernel_tables.proofs.Rising.{found_none}
use Rattle.table_steps.proofs.Forgets.{all_dropped_rests}
use Rattle.table_steps.proofs.WholeSpace.{stands_numbered, data_rest, stack_rest}
use Rattle.table_steps.proofs.LeftPages.{rests}
use Rattle.table_steps.proofs.LeftSpace.{Gives, gone_to, bytes_same, image_low, gives_pages}
use Rattle.table_steps.proofs.GoneKnown.{map_then, texts_then, gone, shared_by, rest_sharers, place_is, then_same, known_then}
use Rattle.kernel_tables.proofs.Removed.{none_shares, some_shares, sharers_gone}
use Rattle.kernel_tables.proofs.UserFrames.{numbered_shown}

-- a space that there is has its place among all
pub space_there : (t : Lists) (sid : ℕ) → HasSpace (placement_of t) sid → IsAbsent sid (sids_of t.spaces) → ⊥
space_there t sid h z = h (numbered_shown t.slots t.spaces sid ∙ ap (option_map (space_shown t.slots)) (found_none t.spaces sid z))

at_within : (ns : List ℕ) (i n : ℕ) → slice_get ns i ≡ Some n → i < length ns
at_within [] i n e = absurd cc
at_within (m ∷ ns) zero n e = omega arith
at_within (m ∷ ns) (suc i) n e = let l = at_within ns i n e in omega arith

pub sids_length : (ss : List Places) → length (sids_of ss) ≡ length ss
sids_length [] = refl
sids_length (s ∷ ss) = ap suc (sids_length ss)

pub still_stands : (ss rs : List Places) (sid i : ℕ) → sids_of rs ≡ sids_of ss → StandsAt ss sid i → StandsAt rs sid i
still_stands ss rs sid i e h =
    let at : slice_get (sids_of rs) i ≡ Some sid = ap (λ (ns : List ℕ). slice_get ns i) e ∙ h.number in
    record { in_range = let l = at_within (sids_of rs) i sid at in let k = sids_length rs in omega arith; number = at }

-- The tables, with the space gone but its text, and in the end.
pub record Parts (t u a w : Tables) (sid index image pages : ℕ) : Type 0 where
  pub known : Known (lists_of t)
  pub settled : IsSettled (placement_of (lists_of t)) sid
  pub forgets : CanForget (placement_of (lists_of t)) sid
  pub dropped : Dropped t u (pages_of_space (placement_of (lists_of t)) sid)
  pub stands : StandsAt u.spaces sid index
  pub removed : a.spaces ≡ without_space sid u.spaces
  pub image_is : Some image ≡ option_map (λ (s : Places). s.image) (slice_get u.spaces index)
  pub pages_are : Some pages ≡ option_map (λ (s : Places). text_pages_of s.facts) (slice_get u.spaces index)
  pub book : a.book ≡ with_holdings u.book (kept (owners.Stack sid) 0 (kept (owners.Data sid) 0 u.book.holdings))
  pub rest : a ≡ record u { spaces = a.spaces; book = a.book }

-- the space that goes
pub record Goes (l : Lists) (sid image pages : ℕ) : Type 0 where
  pub space : Places
  pub there : numbered (λ (x : Places). x.sid) sid l.spaces ≡ Some space
  pub image_is : image ≡ space.image
  pub pages_are : pages ≡ text_pages_of space.facts

pub goes : (l : Lists) (sid index image pages : ℕ) → Known l → StandsAt l.spaces sid index
    → Some image ≡ option_map (λ (s : Places). s.image) (slice_get l.spaces index)
    → Some pages ≡ option_map (λ (s : Places). text_pages_of s.facts) (slice_get l.spaces index) → Goes l sid image pages
goes l sid index image pages k h e f = go (slice_get l.spaces index) (stands_numbered l.spaces sid index k.differ h.number) e f
  where
    go : (o : Option Places) → numbered (λ (x : Places). x.sid) sid l.spaces ≡ o → Some image ≡ option_map (λ (s : Places). s.image) o
        → Some pages ≡ option_map (λ (s : Places). text_pages_of s.facts) o → Goes l sid image pages
    go None n a b = absurd cc
    go (Some s) n a b = record { space = s; there = n; image_is = same_Some image s.image a; pages_are = same_Some pages (text_pages_of s.facts) b }

-- What its image's text asks of the table.
pub image_here : (l : Lists) (sid image pages : ℕ) → Known l → Goes l sid image pages
    → (1 ≤ image) × (image ≤ 16) × (0 < (text_numbered l.texts image).sharers)
image_here l sid image pages k x =
    let b = image_low l sid x.space k x.there in
    let low = b.0 in
    let high = b.1 in
    let e = x.image_is in
    let n : (text_numbered l.texts image).sharers ≡ (text_numbered l.texts x.space.image).sharers = ap (λ (i : ℕ). (text_numbered l.texts i).sharers) e in
    let m = shared_by l sid x.space k x.there b in
    (omega arith, omega arith, omega arith)

pub text_asks : (t u : Tables) (sid index image pages : ℕ)
    → Known (lists_of u)
    → sids_of u.spaces ≡ sids_of t.spaces
    → StandsAt t.spaces sid index
    → Some image ≡ option_map (λ (s : Places). s.image) (slice_get u.spaces index)
    → Some pages ≡ option_map (λ (s : Places). text_pages_of s.facts) (slice_get u.spaces index)
    → (1 ≤ image) × (image ≤ 16) × (0 < (text_numbered u.texts image).sharers)
text_asks t u sid index image pages k n h a b =
    image_here (lists_of u) sid image pages k (goes (lists_of u) sid index image pages k (still_stands t.spaces u.spaces sid index n h) a b)

-- The pieces of the text are given back with the last space that shares it.
text_pieces_back : (o : Option Places) (n image : ℕ) (hs : Holdings) → (o ≡ None → n ≡ 0) → ((x : Places) → o ≡ Some x → 0 < n)
    → text_left_by o hs image ≡ text_given_back n hs image
text_pieces_back None n image hs z m = sym (ap (λ (k : ℕ). text_given_back k hs image) (z refl))
text_pieces_back (Some x) zero image hs z m = absurd (let k = m x refl in omega arith)
text_pieces_back (Some x) (suc n) image hs z m = refl

-- The whole.
pub given_up : (t u a w : Tables) (sid index image pages : ℕ) → Parts t u a w sid index image pages → LeftText a w image pages
    → IsSoundMap w.core.free w.core.slots → GaveUp t w sid
given_up t u a w sid index image pages h lt sound =
    let before : Placement = placement_of (lists_of t) in
    let qs : List Page = pages_of_space before sid in
    let l : Lists = lists_of u in
    let known : Known l = h.dropped.shows.known in
    let x : Goes l sid image pages = goes l sid index image pages known h.stands h.image_is h.pages_are in
    let s : Places = x.space in
    let spaces : a.spaces ≡ without_space sid l.spaces = h.removed in
    -- the space's image
    let own_image : s.image ≡ image_of before sid = sym (ap image_in (numbered_shown l.slots l.spaces sid ∙ ap (option_map (space_shown l.slots)) x.there)) ∙ h.dropped.images sid in
    let zero_left : sharing (without_space sid l.spaces) s.image ≡ None → sharers (remove_space before sid) (image_of before sid) ≡ 0 = λ e.
    sym (rest_drop_all qs before sid (image_of before sid))
    ∙ sym (ap (λ (p : Placement). sharers (remove_space p sid) (image_of before sid)) h.dropped.shows.place)
    ∙ ap (sharers (remove_space (placement_of l) sid)) (sym own_image)
    ∙ rest_sharers l sid s.image ∙ none_shares l.slots (without_space sid l.spaces) s.image e in
    let text_rests : sharing (without_space sid l.spaces) s.image ≡ None → (v : ℕ) → AtRest (state_of (placement_of l) (Text s.image v)) = λ e v.
    subst (λ (p : Placement). AtRest (state_of p (Text s.image v))) (sym h.dropped.shows.place)
    (subst (λ (i : ℕ). AtRest (state_of (drop_all before qs) (Text i v))) (sym own_image)
    (all_dropped_rests before qs (Text (image_of before sid) v) (h.forgets.text_rests (zero_left e) v))) in
    let shares : 0 < sharers (placement_of l) s.image =
    let n = sharers_gone l.slots sid s l.spaces known.differ x.there in let k : 0 < sharers_in s.image (map (space_shown l.slots) l.spaces) = omega arith in k in
    let gives : Gives l sid s = record {
      known = known;
      there = x.there;
      whole = subst (λ (ss : List Places). HasWholeText ss s.image) spaces (subst (HasWholeText a.spaces) x.image_is lt.whole);
      rest = λ e v b. rests l (Text s.image v) known shares (text_rests e v);
    } in
    -- the tables in the end
    let map_is : w.core ≡ map_then l sid s =
    lt.core
    ∙ ap (λ (ss : List Places). left_by (sharing ss image) a.core image pages) spaces
    ∙ ap (λ (m : Frames). left_by (sharing (without_space sid l.spaces) image) m image pages) (ap (λ (y : Tables). y.core) h.rest)
    ∙ ap (λ (i : ℕ). left_by (sharing (without_space sid l.spaces) i) u.core i pages) x.image_is
    ∙ ap (left_by (sharing (without_space sid l.spaces) s.image) u.core s.image) (x.pages_are ∙ sym (gives_pages l sid s gives)) in
    let texts_are : w.texts ≡ texts_then l s =
    lt.texts
    ∙ ap (λ (ts : List SharedText). table_with_text ts image (left (text_numbered ts image))) (ap (λ (y : Tables). y.texts) h.rest)
    ∙ ap (λ (i : ℕ). table_with_text u.texts i (left (text_numbered u.texts i))) x.image_is in
    let is : lists_of w ≡ gone l sid s =
    ap lists_of lt.rest
    ∙ ap (λ (y : Tables). record (lists_of y) { slots = w.core.slots; free = w.core.free; texts = w.texts }) h.rest
    ∙ ap (λ (ss : List Places). record l { slots = w.core.slots; free = w.core.free; spaces = ss; texts = w.texts }) spaces
    ∙ ap (λ (m : Frames). record l { slots = m.slots; free = m.free; spaces = without_space sid l.spaces; texts = w.texts }) map_is
    ∙ ap (λ (ts : List SharedText). gone_to l (map_then l sid s) sid ts) texts_are in
    let then_is : placement_of (gone l sid s) ≡ give_up before sid =
    place_is l sid s gives
    ∙ ap (λ (p : Placement). leave_text (remove_space p sid) s.image) h.dropped.shows.place
    ∙ ap (leave_text (remove_space (drop_all before qs) sid)) own_image in
    let place : placement_of (lists_of w) ≡ give_up before sid = ap placement_of is ∙ then_is in
    let rest_all : EachPage (λ q. AtRest (state_of before q)) qs =
    each_page_append (λ q. AtRest (state_of before q)) (data_from sid 0 (data_count before sid)) (stack_from sid 0 (stack_count before sid))
    (data_rest before sid (data_count before sid) h.settled) (stack_rest before sid (stack_count before sid) h.settled) in
    let owns : OwnsFrames (placement_of (gone l sid s)) = subst OwnsFrames (sym then_is) (give_up_owner before sid h.known.owns rest_all) in
    let aside : TextAside (placement_of (gone l sid s)) = subst TextAside (sym then_is) (give_up_aside before sid h.known.aside h.forgets) in
    let core : IsSoundMap (gone l sid s).free (gone l sid s).slots = subst (λ (y : Lists). IsSoundMap y.free y.slots) is sound in
    -- the pieces
    let book_before : u.book ≡ t.book = ap (λ (y : Tables). y.book) h.dropped.rest in
    let returned : Holdings = kept (owners.Stack sid) 0 (kept (owners.Data sid) 0 t.book.holdings) in
    let book_between : a.book ≡ with_holdings t.book returned = h.book ∙ ap (λ (b : Book). with_holdings b (kept (owners.Stack sid) 0 (kept (owners.Data sid) 0 b.holdings))) book_before in
    let image_was : image ≡ image_at t sid = x.image_is ∙ own_image in
    let sharers_then : sharers (placement_of (lists_of w)) image ≡ sharers_in image (map (space_shown w.core.slots) (without_space sid l.spaces)) =
    ap (λ (ss : List Places). sharers_in image (map (space_shown w.core.slots) ss)) (ap (λ (y : Tables). y.spaces) lt.rest ∙ spaces) in
    let pieces : text_left_by (sharing a.spaces image) returned image ≡ text_given_back (sharers (placement_of (lists_of w)) image) returned image =
    ap (λ (ss : List Places). text_left_by (sharing ss image) returned image) spaces
    ∙ text_pieces_back (sharing (without_space sid l.spaces) image) (sharers (placement_of (lists_of w)) image) image returned
    (λ e. sharers_then ∙ none_shares w.core.slots (without_space sid l.spaces) image e)
    (λ y e. let k = some_shares w.core.slots (without_space sid l.spaces) image y e in let n = sharers_then in omega arith) in
    let book : w.book ≡ with_holdings t.book (space_given_back t.book.holdings sid (image_at t sid) (sharers (placement_of (lists_of w)) (image_at t sid))) =
    lt.book
    ∙ ap (λ (b : Book). with_holdings b (text_left_by (sharing a.spaces image) b.holdings image)) book_between
    ∙ ap (with_holdings t.book) pieces
    ∙ ap (λ (i : ℕ). with_holdings t.book (text_given_back (sharers (placement_of (lists_of w)) i) returned i)) image_was in
    let rest : w ≡ record t { core = w.core; spaces = w.spaces; texts = w.texts; book = w.book } =
    lt.rest
    ∙ ap (λ (y : Tables). record y { core = w.core; texts = w.texts; book = w.book }) h.rest
    ∙ ap (λ (y : Tables). record y { core = w.core; spaces = a.spaces; texts = w.texts; book = w.book }) h.dropped.rest
    ∙ ap (λ ss. record t { core = w.core; spaces = ss; texts = w.texts; book = w.book }) (sym (ap (λ (y : Tables). y.spaces) lt.rest)) in
    record {
      shows = record {
        place = place;
        frames = ap frames_of is ∙ bytes_same l (map_then l sid s) sid (texts_then l s) (then_same l sid s gives) ∙ h.dropped.shows.frames;
        known = subst Known (sym is) (known_then l sid s gives owns core aside);
      };
      book = book;
      rest = rest;
    }
