-- The values that the calls of a slot leave are the parts of the settled state and its answer; so for a request.
use mathlib.Core.Path.{◌≡◌, ap, ◌∙◌}
use mathlib.Core.List.{List}
use mathlib.Core.Bool.{Bool, true, cond, ◌&&◌, not}
use Prim.Native.Nat.{ℕ, suc, ◌+◌, ◌-◌, ◌≤◌, ◌<◌}
use native.Mathlib.Numerals.{add-one}
use native.Mathlib.Omega.{arith}
use lib.ListN.{length}
use lib.Count.{ones}
use Rattle.seq.specs.Places.{flag, at}
use Rattle.marks.specs.declared.Marks.{Marks}
use Rattle.rows.specs.Rows.{reloaded, released, charged, worked}
use Rattle.marks.specs.Words.{due_word, end_word, late_word}
use Rattle.late.specs.Late.{dropped, counted, raised, up}
use Rattle.late.proofs.Counts.{up_exact, raised_counted}
use Rattle.queue.specs.Queue.{Request, served, last, lowered, shifted, placed}
use Rattle.queue.proofs.Laid.{Laid, proper_laid, laid_served, laid_asked}
use Rattle.engine.specs.declared.State.{State}
use Rattle.engine.specs.declared.Said.{Said}
use Rattle.engine.specs.declared.SlotSaid.{SlotSaid}
use Rattle.uses.specs.declared.Choice.{Choice}
use Rattle.uses.specs.declared.Use.{Use}
use Rattle.uses.specs.Numbers.{use_number, use_who}
use Rattle.uses.specs.Uses.{chosen, is_give, used_for, row_served, is_hard, is_given, is_empty, is_lost}
use Rattle.engine.specs.States.{queue, with_figures}
use Rattle.engine.specs.Legal.{ran}
use Rattle.engine.specs.Slot.{left_released, left_used, lates, left_judged, counter₁, left₁, choice_of, use_of, late_of, settled, answered}
use Rattle.engine.specs.Said.{said_of}
use Rattle.engine.specs.Calls.{joined}
use Rattle.engine.proofs.Legality.{Legal, late_low}

module _ (s : State) (g : Legal s) (names_long : length s.names ≡ 32) (sizes_long : length s.sizes ≡ 32) where
  abbrev Slot-queue : Bool → List Request
  Slot-queue on = cond on (served (queue s)) (queue s)

  laid : Laid s.count s.names s.sizes (queue s)
  laid = proper_laid s.count s.names s.sizes g.queue names_long sizes_long

  -- the queue's places after a slot
  served_places :
      (on : Bool) {dn : Bool} {z₁ z₂ names : List ℕ} {count : ℕ}
      → dn ≡ last on (at s.sizes 0)
      → z₁ ≡ lowered on s.sizes
      → z₂ ≡ shifted dn z₁
      → names ≡ shifted dn s.names
      → count ≡ s.count - flag dn
      → Laid count names z₂ (Slot-queue on)
  served_places on e_dn e_z e_z2 e_names e_count = rw (e_count, e_names, e_z2, e_z, e_dn) (laid_served laid on)

  -- late counts and tallies do not wrap
  late_exact : (w : ℕ) {late : List ℕ} → late ≡ raised w s.late → late ≡ counted w s.late
  late_exact w e = let k = g.clock in e ∙ raised_counted w s.late (late_low s g) (omega arith)

  tally_exact : (on : Bool) (x : ℕ) {y : ℕ} → x ≤ ran s → y ≡ up on x → y ≡ x + flag on
  tally_exact on x h e = let k = g.clock in e ∙ up_exact on x (omega arith)

  clock_exact : {y : ℕ} → y ≡ up true s.next → y ≡ suc s.next
  clock_exact e = let k = g.clock in e ∙ up_exact true s.next (omega arith) ∙ add-one s.next

  module _ (lost : Bool) where
    pub ran_is :
        {m row count w hard given empty gone next : ℕ} {k₁ l₁ k₂ l₂ z₁ z₂ names l₃ late : List ℕ} {b : Marks} {x : Choice} {v : Use} {pays on dn ih ie il : Bool} {a : Said}
        → m ≡ ran s
        → k₁ ≡ reloaded s.n s.left s.k s.counter
        → b ≡ record { due = due_word m s.n s.t; end = end_word m s.n s.t s.d }
        → l₁ ≡ released b.due s.c s.left
        → x ≡ chosen s.n s.count l₁ k₁
        → v ≡ used_for lost x (at s.names 0)
        → pays ≡ is_give x && not lost
        → k₂ ≡ charged s.n pays k₁
        → row ≡ row_served v
        → l₂ ≡ worked row l₁
        → on ≡ is_given v
        → dn ≡ last on (at s.sizes 0)
        → z₁ ≡ lowered on s.sizes
        → z₂ ≡ shifted dn z₁
        → names ≡ shifted dn s.names
        → count ≡ s.count - flag dn
        → w ≡ late_word b.end l₂
        → l₃ ≡ dropped w l₂
        → late ≡ raised w s.late
        → ih ≡ is_hard v
        → hard ≡ up ih s.hard
        → given ≡ up on s.given
        → ie ≡ is_empty v
        → empty ≡ up ie s.empty
        → il ≡ is_lost v
        → gone ≡ up il s.lost
        → next ≡ up true s.next
        → a ≡ record { number = 0; used = use_number v; word = w; late = ones w; who = use_who v }
        → ◌≡◌ {A = SlotSaid}
        (record {
          state =
              record {
                n = s.n;
                next = next;
                c = s.c;
                t = s.t;
                d = s.d;
                k = s.k;
                left = l₃;
                counter = k₂;
                late = late;
                count = count;
                names = names;
                sizes = z₂;
                hard = hard;
                given = given;
                empty = empty;
                lost = gone;
              };
          answer = a;
        })
        (record { state = settled s lost; answer = said_of (answered s lost) })
    unfolding settled answered with_figures late_of use_of choice_of left₁ counter₁ left_judged lates left_used left_released
    ran_is {w = w} {k₁ = k₁} {on = on} {ih = ih} {ie = ie} {il = il} e_m e_k e_b e_l e_x e_v e_pays e_k2 e_row e_l2 e_on e_dn e_z e_z2 e_names e_count e_w e_l3 e_late e_ih e_hard e_given e_ie e_empty e_il e_gone e_next e_a =
        let k : k₁ ≡ counter₁ s = e_k in
        let due = ap (λ (q : Marks). q.due) e_b in
        let end = ap (λ (q : Marks). q.end) e_b in
        let t = g.tallies in
        let places = served_places on e_dn e_z e_z2 e_names e_count in
        rw (
          ← e_m,
          ← k,
          ← due,
          ← end,
          ← e_l,
          ← e_x,
          ← e_v,
          ← e_pays,
          ← e_k2,
          ← e_row,
          ← e_l2,
          ← e_on,
          ← places.count_is,
          ← places.names_is,
          ← places.sizes_is,
          ← e_w,
          ← e_l3,
          ← late_exact w e_late,
          ← e_ih,
          ← tally_exact ih s.hard (omega arith) e_hard,
          ← tally_exact on s.given (omega arith) e_given,
          ← e_ie,
          ← tally_exact ie s.empty (omega arith) e_empty,
          ← e_il,
          ← tally_exact il s.lost (omega arith) e_gone,
          ← clock_exact e_next,
          ← e_a,
        )

  module _ (name size : ℕ) where
    pub joined_is :
        {names sizes : List ℕ}
        → 1 ≤ size
        → s.count < 32
        → names ≡ placed s.count name s.names
        → sizes ≡ placed s.count size s.sizes
        → ◌≡◌ {A = State}
        (record {
          n = s.n;
          next = s.next;
          c = s.c;
          t = s.t;
          d = s.d;
          k = s.k;
          left = s.left;
          counter = s.counter;
          late = s.late;
          count = s.count + 1;
          names = names;
          sizes = sizes;
          hard = s.hard;
          given = s.given;
          empty = s.empty;
          lost = s.lost;
        })
        (joined s name size)
    unfolding joined with_figures
    joined_is h f e_names e_sizes =
        let y = laid_asked laid (record { name = name; size = size }) f h in
        rw (e_names, e_sizes, y.count_is, y.names_is, y.sizes_is)
