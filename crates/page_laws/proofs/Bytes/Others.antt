-- What a step leaves alone is the same, and what settling means.
use Rattle.std.proofs.Common.{◌≡◌, ◌≢◌, ◌⊎◌, inl, inr, ℕ, ◌<◌, ◌==◌, ◌&&◌, Bool, true, false, not, List, [], ◌∷◌, ◌++◌, map, Option, Some, None, refl, sym, ap, ◌∙◌, subst, arith}
use Rattle.std.proofs.lemmas.Bool.{cases_eq, not-true, or_left, or_right, and_parts}
use Rattle.vm_facts.specs.declared.page.Page.{Page}
use Rattle.vm_facts.specs.declared.page.Page.TheVariants.{Data, Stack, Text}
use Rattle.vm_facts.specs.declared.page.PageState.{PageState}
use Rattle.vm_facts.specs.declared.page.PageState.TheVariants.{Unfilled, Valid, Invalid, Coming, Going, OnSwap}
use Rattle.page_model.specs.Pages.{frame_of, left_state}
use Rattle.page_model.specs.Frames.{at_frame}
use Rattle.vm_facts.specs.Lists.{times, without}
use Rattle.page_model.specs.Placement.{Placement, Transfer, Part, Moving, Errand, Writes, Reads, Source, state_of, mark_of, page_of, parts_of, flying, moving, is_dirty, image_of, sharers}
use Rattle.page_model.specs.Moves.{evict, evict_at, fill_at, get_run, done, reclaim, reclaim_to, touch, touch_to}
use Rattle.page_model.specs.Steps.{begin, get_one, get_at, get_all}
use Rattle.page_model.specs.Place.{filled, put_step, put_by}
use Rattle.page_model.specs.Swapper.{names_page, is_settled}
use Rattle.vm_facts.specs.Pages.{is_of_space, is_of_text}
use Rattle.page_model.specs.Conditions.{EachPage, AtRest, CanEnter, IsSettled}
use Rattle.page_model.specs.Ownership.{OwnsFrames, Each, IsMoving, IsListed, seats}
use Rattle.page_model.specs.PageBytes.{Bytes, bytes_in, SamePage, with_frame, source_bytes, bytes_read, Stores, StoresAll, BytesBy, BytesAfter, NotIn, WritesBoth}
use Rattle.page_laws.proofs.Moves.InSteps.{get_steps}
use Rattle.page_laws.proofs.Lists.Frames.{at_set_other, some_free}
use Rattle.vm_facts.proofs.Lists.{times_other}
use Rattle.page_laws.proofs.Lists.Pages.{page_cases, put_state}
use Rattle.page_laws.proofs.Lists.Local.{none_some}
use Rattle.std.proofs.lemmas.Option.{same_Some}
use Rattle.vm_facts.proofs.Tests.{eq_self}
use Rattle.page_laws.proofs.Moves.Steps.{page_in, once_at, put_other_state, frame_of_moving, evict_owner, evict_page, left_frameless}
use Rattle.page_laws.proofs.Ownership.Runs.{begin_owner}
use Rattle.page_laws.proofs.Moves.Stays.{Steady, Stays, steady_self, steady_stays, turn_steady, launch_run_steady, retire_steady, done_steady}

-- Steps that change no bytes: each page has the frame that it had, so all pages are the same.
pub stays_same : (p q : Placement) (b : Bytes) (w : Page) → Stays p q → SamePage p q b b w
stays_same p q b w s = record { frames = λ f g e h. ap (bytes_in b) (same_Some g f (sym h ∙ s.frames w ∙ e)); swap = refl; start = refl }

-- a page has the frame that it had, or none
abbrev pub Lasts : Placement → Placement → Page → Type 0
Lasts p q w = (frame_of (state_of q w) ≡ frame_of (state_of p w)) ⊎ (frame_of (state_of q w) ≡ None)

lasts_both : (p q r : Placement) (w : Page) → Lasts p q w → Lasts q r w → Lasts p r w
lasts_both p q r w a (inr h) = inr h
lasts_both p q r w (inl g) (inl h) = inl (h ∙ g)
lasts_both p q r w (inr g) (inl h) = inr (h ∙ g)

pub lasts_same : (p q : Placement) (b : Bytes) (w : Page) → Lasts p q w → SamePage p q b b w
lasts_same p q b w (inl h) = record { frames = λ f g e k. ap (bytes_in b) (same_Some g f (sym k ∙ h ∙ e)); swap = refl; start = refl }
lasts_same p q b w (inr h) = record { frames = λ f g e k. none_some g (sym h ∙ k); swap = refl; start = refl }

evict_lasts : (p : Placement) (f : ℕ) (w : Page) → OwnsFrames p → Lasts p (evict p f) w
evict_lasts p f w o = go (page_of p f) refl
  where
    go : (h : Option Page) → page_of p f ≡ h → Lasts p (evict_at p f h) w
    go None e = inl refl
    go (Some v) e = elim (page_cases w v) [
      | inl s ↦ inr (subst (λ (x : Page). frame_of (state_of (evict_at p f (Some v)) x) ≡ None) (sym s)
          (ap frame_of (put_state p v (left_state v (mark_of p v)) (mark_of p v) (page_in p v f (o.named f v e))) ∙ left_frameless v (mark_of p v)))
      | inr n ↦ inl (ap frame_of (put_other_state p v (left_state v (mark_of p v)) (mark_of p v) w n))
    ]

get_lasts : (p : Placement) (e : Errand) (v w : Page) → OwnsFrames p → w ≢ v → Lasts p (get_one p e v) w
get_lasts p e v w o n = go p.free
  where
    go : (fr : List ℕ) → Lasts p (get_at p e v fr) w
    go [] = inl refl
    go (f ∷ rest) = elim (evict_lasts p f w o) [
      | inl h ↦ inl (ap frame_of (put_other_state (evict p f) v (Coming f) (mark_of p v) w n) ∙ h)
      | inr h ↦ inr (ap frame_of (put_other_state (evict p f) v (Coming f) (mark_of p v) w n) ∙ h)
    ]

get_all_lasts : (qs : List Page) (p : Placement) (source : Source) (demanded w : Page) → OwnsFrames p → EachPage (CanEnter p) qs
    → Rattle.page_model.specs.Conditions.AllApart qs
    → Rattle.page_laws.proofs.Lists.Parts.IsOpen p.transfers (Reads source demanded)
    → EachPage (λ r. w ≢ r) qs → Lasts p (get_all p (Reads source demanded) qs) w
get_all_lasts [] p source demanded w o c a latest n = inl refl
get_all_lasts (v ∷ qs) p source demanded w o c a latest n = lasts_both p (get_one p (Reads source demanded) v) (get_all (get_one p (Reads source demanded) v) (Reads source demanded) qs) w
    (get_lasts p (Reads source demanded) v w o n.0)
    (get_all_lasts qs (get_one p (Reads source demanded) v) source demanded w (Rattle.page_laws.proofs.Ownership.Pages.get_owner p source demanded v o c.0 latest)
    (Rattle.page_laws.proofs.Lists.Runs.each_page_both (CanEnter p) (λ r. r ≢ v) (CanEnter (get_one p (Reads source demanded) v)) qs c.1 a.0
    (λ x h k. Rattle.page_laws.proofs.Ownership.Runs.get_enters_still p (Reads source demanded) v x o k h))
    a.1 (Rattle.page_laws.proofs.Ownership.Runs.get_open_still p (Reads source demanded) v latest) n.1)

-- The beginning of a read leaves each page that isn't of its run the same.
pub get_run_same : (p : Placement) (source : Source) (demanded : Page) (qs : List Page) (b : Bytes) (w : Page) → OwnsFrames p → EachPage (CanEnter p) qs
    → Rattle.page_model.specs.Conditions.AllApart qs → EachPage (λ r. w ≢ r) qs → SamePage p (get_run p (Reads source demanded) qs) b b w
get_run_same p source demanded qs b w o c a n = lasts_same p (get_run p (Reads source demanded) qs) b w
    (subst (λ (r : Placement). Lasts p r w) (get_steps p (Reads source demanded) qs) (get_all_lasts qs (begin p (Reads source demanded)) source demanded w (begin_owner p (Reads source demanded) o)
    (Rattle.page_laws.proofs.Lists.Runs.each_page_imp (CanEnter p) (CanEnter (begin p (Reads source demanded))) qs c (λ q h. record { there = h.there; frameless = h.frameless })) a
    (Rattle.page_laws.proofs.Lists.Parts.begin_open p.transfers (Reads source demanded)) n))

-- A fill leaves each other page the same.
pub filled_same : (p : Placement) (v : Page) (f : ℕ) (rest : List ℕ) (b : Bytes) (bytes : List ℕ) (w : Page) → OwnsFrames p → p.free ≡ f ∷ rest
    → w ≢ v → SamePage p (filled p v) b (with_frame b f bytes) w
filled_same p v f rest b bytes w o e n = record {
  frames = λ g h a k.
      let now : frame_of (state_of (evict p f) w) ≡ Some h =
      ap frame_of (sym (put_other_state (evict p f) v (Valid f) true w n)) ∙ subst (λ (fr : List ℕ). frame_of (state_of (fill_at p v fr) w) ≡ Some h) e k in
      let same : h ≡ g = elim (evict_lasts p f w o) [
        | inl l ↦ same_Some h g (sym now ∙ l ∙ a)
        | inr l ↦ none_some h (sym l ∙ now)
      ] in
      let oe : OwnsFrames (evict p f) = evict_owner p f o (some_free p f rest e) in
      let apart : h ≢ f = λ z. none_some w (sym (evict_page p f) ∙ subst (λ (x : ℕ). page_of (evict p f) x ≡ Some w) z (oe.names w h now)) in
      at_set_other b.frames f h bytes [] apart ∙ ap (bytes_in b) same;
  swap = refl;
  start = refl;
}

-- The end of a transfer leaves each page that isn't in it the same.

abbrev NotFrames : ℕ → List Part → Type 0
NotFrames f [] = Unit {0}
NotFrames f (x ∷ xs) = (f ≢ x.frame) × NotFrames f xs

read_frames : (xs : List Part) (b : Bytes) (source : Source) (f : ℕ) → NotFrames f xs → bytes_in (bytes_read b source xs) f ≡ bytes_in b f
read_frames [] b source f n = refl
read_frames (x ∷ xs) b source f n = read_frames xs (with_frame b x.frame (source_bytes b source x.page)) source f n.1 ∙ at_set_other b.frames x.frame f (source_bytes b source x.page) [] n.0

read_swap : (xs : List Part) (b : Bytes) (source : Source) (w : Page)
    → ((bytes_read b source xs).swap w ≡ b.swap w) × ((bytes_read b source xs).start w ≡ b.start w)
read_swap [] b source w = (refl, refl)
read_swap (x ∷ xs) b source w = read_swap xs (with_frame b x.frame (source_bytes b source x.page)) source w

stored_rest : (xs : List Part) (b c : Bytes) (w : Page) → StoresAll b xs c → NotIn w xs
    → (c.frames ≡ b.frames) × (c.swap w ≡ b.swap w) × (c.start w ≡ b.start w)
stored_rest [] b c w s n = (ap (λ (x : Bytes). x.frames) (sym s), ap (λ (x : Bytes). x.swap w) (sym s), ap (λ (x : Bytes). x.start w) (sym s))
stored_rest (x ∷ xs) b c w s n =
    let k = stored_rest xs s.0 c w s.2 n.1 in
    let m : Stores b s.0 x.page (bytes_in b x.frame) = s.1 in
    (k.0 ∙ m.frames, k.1 ∙ m.others w n.0, k.2 ∙ m.start w)

-- a page that isn't in the transfer has none of its frames
other_frames : (p : Placement) (e : Errand) (xs : List Part) (w : Page) (f : ℕ) → OwnsFrames p → Each (IsMoving p) (map (moving e) xs) → NotIn w xs
    → frame_of (state_of p w) ≡ Some f → NotFrames f xs
other_frames p e [] w f o m n h = tt
other_frames p e (x ∷ xs) w f o m n h =
    ((λ z. n.0 (same_Some w x.page (sym (o.names w f h) ∙ ap (page_of p) z ∙ o.names x.page x.frame (ap frame_of m.0 ∙ frame_of_moving e x.frame)))), other_frames p e xs w f o m.1 n.1 h)

pub each_front : (P : Moving → Type 0) (ms ns : List Moving) → Each P (ms ++ ns) → Each P ms
each_front P [] ns h = tt
each_front P (m ∷ ms) ns h = (h.0, each_front P ms ns h.1)

pub done_same : (p : Placement) (t : Transfer) (ts : List Transfer) (b c : Bytes) (w : Page) → OwnsFrames p → p.transfers ≡ t ∷ ts
    → BytesAfter b (t ∷ ts) c → NotIn w t.parts → SamePage p (done p) b c w
done_same p t ts b c w o h s n = by t.errand refl
  where
    st : Steady p (done p)
    st = done_steady p o

    moves : Each (IsMoving p) (map (moving t.errand) t.parts)
    moves = each_front (IsMoving p) (map (moving t.errand) t.parts) (parts_of ts) (subst (λ (us : List Transfer). Each (IsMoving p) (parts_of us)) h o.moves)

    by : (e : Errand) → t.errand ≡ e → SamePage p (done p) b c w
    by Writes e =
        let k = stored_rest t.parts b c w (subst (λ (x : Errand). BytesBy b x t.parts c) e s) n in
        record { frames = λ f g a i. ap (λ (fs : List (List ℕ)). at_frame fs g []) k.0 ∙ ap (bytes_in b) (same_Some g f (sym i ∙ st.frames w ∙ a)); swap = k.1; start = k.2 }
    by (Reads source demanded) e =
        let is : bytes_read b source t.parts ≡ c = subst (λ (x : Errand). BytesBy b x t.parts c) e s in
        let k = read_swap t.parts b source w in
        record {
          frames = λ f g a i. ap (λ (x : Bytes). bytes_in x g) (sym is) ∙ ap (bytes_in (bytes_read b source t.parts)) (same_Some g f (sym i ∙ st.frames w ∙ a))
              ∙ read_frames t.parts b source f (other_frames p t.errand t.parts w f o moves n a);
          swap = ap (λ (x : Bytes). x.swap w) (sym is) ∙ k.0;
          start = ap (λ (x : Bytes). x.start w) (sym is) ∙ k.1;
        }

-- What is put keeps its frame, and so do all others.
pub put_steady : (p : Placement) (v : Page) (qs : List Page) → Steady p (put_step p v qs)
put_steady p v qs = go (is_dirty p v)
  where
    go : (d : Bool) → Steady p (put_by p v qs d)
    go true = launch_run_steady p qs
    go false = retire_steady p v

pub put_same : (p : Placement) (v : Page) (qs : List Page) (b : Bytes) (w : Page) → SamePage p (put_step p v qs) b b w
put_same p v qs b w = stays_same p (put_step p v qs) b w (steady_stays p (put_step p v qs) (put_steady p v qs))

-- A page that is reclaimed keeps its frame.
pub reclaim_steady : (p : Placement) (v : Page) → Steady p (reclaim p v)
reclaim_steady p v = go (state_of p v) refl
  where
    go : (s : PageState) → state_of p v ≡ s → Steady p (reclaim_to p v s)
    go (Invalid f) e = turn_steady p v f (Valid f) (mark_of p v) (without f p.free) p.transfers (ap frame_of e) refl
    go Unfilled e = steady_self p
    go (Valid f) e = steady_self p
    go (Coming f) e = steady_self p
    go (Going f) e = steady_self p
    go OnSwap e = steady_self p

pub reclaim_same : (p : Placement) (v : Page) (b : Bytes) (w : Page) → SamePage p (reclaim p v) b b w
reclaim_same p v b w = stays_same p (reclaim p v) b w (steady_stays p (reclaim p v) (reclaim_steady p v))

-- A user write leaves each other page the same.
pub touch_steady : (p : Placement) (v : Page) → Steady p (touch p v)
touch_steady p v = go v (state_of p v) refl
  where
    go : (v : Page) (s : PageState) → state_of p v ≡ s → Steady p (touch_to p v s)
    go (Data sid n) (Valid f) e = turn_steady p (Data sid n) f (Valid f) true p.free p.transfers (ap frame_of e) refl
    go (Data sid n) Unfilled e = steady_self p
    go (Data sid n) (Invalid f) e = steady_self p
    go (Data sid n) (Coming f) e = steady_self p
    go (Data sid n) (Going f) e = steady_self p
    go (Data sid n) OnSwap e = steady_self p
    go (Stack sid n) (Valid f) e = turn_steady p (Stack sid n) f (Valid f) true p.free p.transfers (ap frame_of e) refl
    go (Stack sid n) Unfilled e = steady_self p
    go (Stack sid n) (Invalid f) e = steady_self p
    go (Stack sid n) (Coming f) e = steady_self p
    go (Stack sid n) (Going f) e = steady_self p
    go (Stack sid n) OnSwap e = steady_self p
    go (Text image n) s e = steady_self p

pub touch_same : (p : Placement) (v : Page) (f : ℕ) (b c : Bytes) (bytes : List ℕ) (w : Page) → OwnsFrames p → state_of p v ≡ Valid f
    → WritesBoth b c v f bytes → w ≢ v → SamePage p (touch p v) b c w
touch_same p v f b c bytes w o e s n = record {
  frames = λ g h a k.
      let t : Steady p (touch p v) = touch_steady p v in
      let same : h ≡ g = same_Some h g (sym k ∙ t.frames w ∙ a) in
      let apart : h ≢ f = λ z. n (same_Some w v (sym (o.names w g a) ∙ ap (page_of p) (sym same ∙ z) ∙ o.names v f (ap frame_of e))) in
      ap (λ (fs : List (List ℕ)). at_frame fs h []) s.frames ∙ at_set_other b.frames f h bytes [] apart ∙ ap (bytes_in b) same;
  swap = s.swap w;
  start = s.start w;
}

-- Settling.

named_in : (p : Placement) (test : Page → Bool) (q : Page) (f : ℕ) (ms : List Moving) → OwnsFrames p → test q ≡ true → page_of p f ≡ Some q
    → Each (IsMoving p) ms → 0 < times f (flying ms) → names_page test ms ≡ true
named_in p test q f [] o t h m l = absurd (omega arith)
named_in p test q f (x ∷ ms) o t h m l = elim (cases_eq x.frame f) [
  | inl e ↦ or_left (test x.page) (names_page test ms) (ap test (same_Some x.page q (sym (o.names x.page x.frame (ap frame_of m.0 ∙ frame_of_moving x.errand x.frame)) ∙ ap (page_of p) e ∙ h)) ∙ t)
  | inr n ↦ or_right (test x.page) (names_page test ms) (named_in p test q f ms o t h m.1 (let k = times_other f x.frame (flying ms) n in omega arith))
]

-- a page in flight is named by a transfer
flight_named : (p : Placement) (test : Page → Bool) (q : Page) (f : ℕ) → OwnsFrames p → test q ≡ true → frame_of (state_of p q) ≡ Some f
    → seats 0 (state_of p q) ≡ 0 → (state_of p q ≡ Invalid f → ⊥)
    → names_page test (parts_of p.transfers) ≡ true
flight_named p test q f o t e z n =
    let zero_or : (m : ℕ) → (m ≡ 0) ⊎ (0 < m) = λ m. grind arith in
    named_in p test q f (parts_of p.transfers) o t (o.names q f e) o.moves (elim (zero_or (times f p.free)) [
      | inl y ↦ (let a = once_at p q f o e in let b : seats (times f p.free) (state_of p q) ≡ 0 = ap (λ (k : ℕ). seats k (state_of p q)) y ∙ z in omega arith)
      | inr y ↦ absurd (n (let k : IsListed p f q = o.listed f q y (o.names q f e) in k.state))
    ])

pub unnamed_rests : (p : Placement) (test : Page → Bool) (q : Page) → OwnsFrames p → test q ≡ true → names_page test (parts_of p.transfers) ≡ false
    → AtRest (state_of p q)
unnamed_rests p test q o t n = go (state_of p q) refl
  where
    never : (f : ℕ) (s : PageState) → state_of p q ≡ s → frame_of s ≡ Some f → seats 0 s ≡ 0 → (s ≡ Invalid f → ⊥) → ⊥
    never f s e h z i = absurd (let k = flight_named p test q f o t (ap frame_of e ∙ h) (ap (seats 0) e ∙ z) (λ x. i (sym e ∙ x)) in let j : true ≡ false = sym k ∙ n in cc)

    go : (s : PageState) → state_of p q ≡ s → AtRest s
    go Unfilled e = tt
    go (Valid f) e = tt
    go (Invalid f) e = tt
    go (Coming f) e = never f (Coming f) e refl refl (λ x. absurd cc)
    go (Going f) e = never f (Going f) e refl refl (λ x. absurd cc)
    go OnSwap e = tt

-- What the test of settling tells: no page of the space is in flight.
pub settled_rests : (p : Placement) (sid : ℕ) → OwnsFrames p → is_settled p sid ≡ true → IsSettled p sid
settled_rests p sid o e =
    let k = not-true (names_page (is_of_space sid) (parts_of p.transfers))
    (and_parts (not (names_page (is_of_space sid) (parts_of p.transfers))) (not ((sharers p (image_of p sid) == 1) && names_page (is_of_text (image_of p sid)) (parts_of p.transfers))) e).0 in
    record {
      data_rests = λ v. unnamed_rests p (is_of_space sid) (Data sid v) o (eq_self sid) k;
      stack_rests = λ v. unnamed_rests p (is_of_space sid) (Stack sid v) o (eq_self sid) k;
    }
