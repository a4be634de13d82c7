-- What the calls above the machine ask, from what the calls before it say.
use Rattle.std.proofs.Common.{◌≡◌, ℕ, suc, ◌+◌, ◌-◌, ◌/◌, ◌<◌, ◌≤◌, ◌==◌, Bool, true, false, cond, List, [], ◌∷◌, length, map, Option, Some, None, is_some, slice_get, refl, sym, ap, ◌∙◌, subst, arith, lit<}
use Rattle.std.proofs.lemmas.Bool.Decides.{nat_tests}
use Rattle.std.proofs.lemmas.Option.{same_Some}
use Rattle.vm_facts.specs.declared.page.Page.{Page}
use Rattle.vm_facts.specs.declared.page.Page.TheVariants.{Stack, Text}
use Rattle.vm_facts.specs.declared.page.PageState.{PageState}
use Rattle.vm_facts.specs.declared.page.PageState.TheVariants.{Unfilled, Valid, Invalid, Coming, Going, OnSwap}
use Rattle.vm_facts.specs.declared.entry.Entry.{Entry}
use Rattle.aout_image.specs.declared.Image.{Image}
use Rattle.aout_image.specs.Image.{file_length_of}
use Rattle.io_edge.specs.FileHolding.{NamedFile, bytes_at}
use Rattle.proc_table.specs.Records.{Lowest}
use Rattle.page_model.specs.Pages.{SpacePages, numbered, Filling, Zeros, OfImage}
use Rattle.page_model.specs.Placement.{Placement, Due, Start, IsThere, state_of, filling_of, space_number, sharers_in}
use Rattle.page_model.specs.Conditions.{IsShared}
use Rattle.page_model.specs.Dues.{NotDue}
use Rattle.page_model.specs.Rank.{HasRoom}
use Rattle.machine_state.specs.Going.{CanGoOn}
use Rattle.machine_state.specs.Named.{Named}
use Rattle.machine_state.specs.Sourced.{ImageNamed}
use Rattle.machine_state.specs.Machine.{Standing, image_shown}
use Rattle.machine_state.specs.New.{fresh_kernel}
use Rattle.machine_state.specs.Calls.{first_due}
use Rattle.machine_state.specs.Conditions.{CanZero}
use Rattle.machine_state.specs.Due.{IsFirstStart}
use Rattle.machine_state.specs.PlaceOf.{is_blank}
use Rattle.machine_state.specs.Files.{AreFiles, HaveFiles}
use Rattle.machine_state.specs.Sharing.{IsSharer}
use Rattle.machine_state.specs.Beginning.{StartedFirst}
use Rattle.machine_state.proofs.FirstBegins.{shown_facts}
use Rattle.paging_units.specs.Spans.{moves}
use Rattle.paging_units.specs.LastMoves.{last_moves}
use Rattle.proc_calls.specs.Serving.{CanServe}
use Rattle.pager_tests.specs.Ready.{MachineIsReady, HasStarted}
use Rattle.pager_tests.proofs.SmallMachine.{has_file, shown_files}

-- What a page asks that is to be served.

shared_in : (ss : List SpacePages) (sid image : ℕ) (s : SpacePages) → numbered space_number sid ss ≡ Some s → s.image ≡ image → 0 < sharers_in image ss
shared_in [] sid image s e h = absurd cc
shared_in (x ∷ ss) sid image s e h = go (space_number x == sid) e (shared_in ss sid image s)
  where
    go : (b : Bool) → cond b (Some x) (numbered space_number sid ss) ≡ Some s → (numbered space_number sid ss ≡ Some s → s.image ≡ image → 0 < sharers_in image ss)
        → 0 < cond (x.image == image) 1 0 + sharers_in image ss
    go true f more = let i : x.image ≡ image = ap (λ (y : SpacePages). y.image) (same_Some x s f) ∙ h in grind (arith, nat_tests, i)
    go false f more = let l = more f h in omega arith

pub text_shared : (p : Placement) (image v sid : ℕ) → IsSharer p image sid → IsShared p (Text image v)
text_shared p image v sid s = shared_in p.spaces sid image s.space s.there s.shares

pub none_due : (ds : List Due) → None ≡ first_due ds → ds ≡ []
none_due [] e = refl
none_due (d ∷ ds) e = absurd cc

pub can_serve : (p : Placement) (q : Page) → IsThere p q → IsShared p q → p.due ≡ [] → CanServe p q
can_serve p q t s d = record { there = t; shared = s; fresh = subst (λ (ds : List Due). NotDue ds q) (sym d) refl; blank = λ b. d }

pub has_room : (p : Placement) → length p.holds ≡ 64 → HasRoom p []
has_room p e = record {
  quarter = subst (λ (n : ℕ). 0 < n / 4) (sym e) (lit< tt);
  rest = subst (λ (n : ℕ). 0 + n / 4 < n) (sym e) (lit< tt);
}

pub has_more_room : (p : Placement) (q : Page) → length p.holds ≡ 64 → HasRoom p (q ∷ [])
has_more_room p q e = record {
  quarter = subst (λ (n : ℕ). 0 < n / 4) (sym e) (lit< tt);
  rest = subst (λ (n : ℕ). 1 + n / 4 < n) (sym e) (lit< tt);
}

-- The moves that the last entry counts.

pub last_is : (journal : List Entry) (e : Entry) → slice_get journal (length journal - 1) ≡ Some e → moves e ≡ last_moves journal
last_is [] e h = absurd cc
last_is (x ∷ []) e h = sym (ap moves (same_Some x e h))
last_is (x ∷ f ∷ journal) e h = last_is (f ∷ journal) e (sym (ap (slice_get (x ∷ f ∷ journal)) (before (length journal))) ∙ h)
  where
    before : (n : ℕ) → suc (suc n) - 1 ≡ suc (suc n - 1)
    before n = omega arith

pub last_none : (journal : List Entry) → slice_get journal (length journal - 1) ≡ None → 0 ≡ last_moves journal
last_none [] h = refl
last_none (x ∷ []) h = absurd cc
last_none (x ∷ f ∷ journal) h = last_none (f ∷ journal) (sym (ap (slice_get (x ∷ f ∷ journal)) (before (length journal))) ∙ h)
  where
    before : (n : ℕ) → suc (suc n) - 1 ≡ suc (suc n - 1)
    before n = omega arith

-- The first process began.

abbrev pub fresh : List Named → Standing
fresh images = record {
  kernel = fresh_kernel (map (λ (x : Named). x.facts) images) 64;
  params = record { frames = 64; swap_blocks = 260; limit = 1; journal = 256 };
  images = map image_shown images;
  before = [];
  room = None;
}

from_fresh : (new : Standing) (images : List Named) (facts : Image) → map (λ (x : Named). x.facts) images ≡ facts ∷ []
    → map (λ (x : Named). x.file) images ≡ 0 ∷ [] → CanGoOn new → StartedFirst (fresh images) new 1 → HasStarted new facts
from_fresh new images facts is at on s = record {
  ready = on;
  blocks = ap (λ (m : Standing). m.params.swap_blocks) s.step;
  files = subst (λ (ns : List ImageNamed). (files : List NamedFile) → 0 < length files → file_length_of facts ≤ length (bytes_at files 0) → HaveFiles ns files)
      (sym (ap (λ (m : Standing). m.images) s.step))
      (has_file (map image_shown images) facts (shown_facts images ∙ is) (shown_files images ∙ at));
  due = ap (λ (m : Standing). m.kernel.place.due) s.step;
}

pub has_started : (old new : Standing) (images : List Named) (facts : Image) → old ≡ fresh images → map (λ (x : Named). x.facts) images ≡ facts ∷ []
    → map (λ (x : Named). x.file) images ≡ 0 ∷ [] → CanGoOn new → StartedFirst old new 1 → HasStarted new facts
has_started old new images facts e is at on s =
    from_fresh new images facts is at on (subst (λ (m : Standing). StartedFirst m new 1) e s)

-- Its first stack page may be filled.

blank_is : (s : PageState) (x : Filling) → is_blank s x ≡ true → (s ≡ Unfilled) × (x ≡ Zeros)
blank_is Unfilled Zeros e = (refl, refl)
blank_is Unfilled OfImage e = absurd cc
blank_is (Valid f) x e = absurd cc
blank_is (Invalid f) x e = absurd cc
blank_is (Coming f) x e = absurd cc
blank_is (Going f) x e = absurd cc
blank_is OnSwap x e = absurd cc

pub can_zero : (p : Placement) → IsThere p (Stack 1 0) → is_blank (state_of p (Stack 1 0)) (filling_of p (Stack 1 0)) ≡ true
    → p.due ≡ Start (Stack 1 0) ∷ [] → 0 < length p.free
    → CanZero p (Stack 1 0)
can_zero p t b d f = record {
  writable = tt;
  there = t;
  unfilled = (blank_is (state_of p (Stack 1 0)) (filling_of p (Stack 1 0)) b).0;
  zeros = (blank_is (state_of p (Stack 1 0)) (filling_of p (Stack 1 0)) b).1;
  first = subst (λ (ds : List Due). IsFirstStart ds (Stack 1 0)) (sym d) refl;
  frame = f;
}

pub started_ready : (m : Standing) (facts : Image) (holds : Option (List NamedFile)) (blocks : ℕ) → HasStarted m facts → file_length_of facts ≤ 32768
    → blocks ≡ 260
    → ((images : List ImageNamed) → ((files : List NamedFile) → 0 < length files → 32768 ≤ length (bytes_at files 0) → HaveFiles images files)
    → AreFiles images holds) → MachineIsReady m holds blocks
started_ready m facts holds blocks s l b f = record {
  ready = s.ready;
  area = let size = s.blocks in omega arith;
  files = f m.images (λ files some long. s.files files some (omega arith));
}

pub lowest_shared : (p : Placement) (image v : ℕ) (o : Option ℕ) → Lowest (IsSharer p image) o → is_some o ≡ true → IsShared p (Text image v)
lowest_shared p image v None l e = absurd cc
lowest_shared p image v (Some sid) l e = text_shared p image v sid l.0
