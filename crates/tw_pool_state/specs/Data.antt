-- The requirements of an instruction on data on a store and a task, and its effects. The event on the parts is defined by the machine's
-- step; this is for the functions below it.
use Rattle.std.specs.Prelude.{◌≡◌, ◌⊎◌, ◌<◌, ◌^◌, ◌+◌, ℕ, List, [], Some, None, map as each, slice_index_or}
use Rattle.std.specs.declared.result.Result.{Result}
use Rattle.std.specs.declared.result.Result.TheVariants.{Ok, Err}
use Rattle.std.specs.FinMap.{get}
use Rattle.tw_types.specs.declared.data_type.Scalar.{Scalar}
use Rattle.tw_types.specs.declared.notice.Notice.{Notice}
use Rattle.tw_types.specs.Notices.{Notices, with_notices}
use Rattle.tw_types.specs.Store.{Datum, notice_to}
use Rattle.tw_types.specs.StoreCalls.{count_in}
use Rattle.tw_types.specs.TypedStore.{IsTypedStore}
use Rattle.tw_rights.specs.declared.held.Held.{Held}
use Rattle.tw_rights.specs.Bare.{bare_file}
use Rattle.tw_rights.specs.Kinds.{kinds_of}
use Rattle.tw_store.specs.Served.{IsUnchanged, Served, queued}
use Rattle.tw_code.specs.declared.flow.Way.{Way}
use Rattle.tw_code.specs.declared.instr.DataInstr.{DataInstr}
use Rattle.tw_code.specs.accepting.Flow.{data_flow, onward}
use Rattle.tw_code.specs.accepting.Typing.{after_data, requires_data}
use Rattle.tw_code.specs.format.Program.{IsDataInstr}
use Rattle.tw_code.specs.machine.Data.{Context, data_instr}
use Rattle.tw_code.specs.machine.Rights.{Typing}
use Rattle.tw_soundness.proofs.Values.{AllYes}
use Rattle.tw_frame.specs.Jobs.{DoneView, DraftView, FrameView, JobView, MayBeAt, draft_of, job_of}
use Rattle.tw_pool_state.specs.Coming.{frame_after, issued_as}
use Rattle.tw_pool_state.specs.Fits.{ArePlaced, IsAt, kinds_in, right_in}
use Rattle.tw_pool_state.specs.Memory.{TakesMemory}
use Rattle.tw_pool_state.specs.Queued.{notices_made}

-- returns the instruction's context, if these are the notices
abbrev pub sees : Served → Notices → FrameView → Context
sees s ns f = record { store = s.store; notices = ns; rights = bare_file f.held; position = f.position }

abbrev pub IsLive : Served → ℕ → Type 0
IsLive s id = (x : Datum) × (get s.store.live id ≡ Some x)

-- ---- requirements

-- each number and count can be increased
pub record HasRoom (s : Served) (f : FrameView) : Type 0 where
  pub next : s.store.next < 2 ^ 62
  pub reads : (id : ℕ) (x : Datum) → get s.store.live id ≡ Some x → x.reads < 2 ^ 62
  pub writes : (id : ℕ) (x : Datum) → get s.store.live id ≡ Some x → x.writes < 2 ^ 62
  pub members : (id : ℕ) (x : Datum) → get s.store.live id ≡ Some x → count_in x.content < 2 ^ 62
  pub place : f.position.place < 2 ^ 62
  pub spent : f.spent < 2 ^ 62

-- the rights are of the kinds of a typing at which the instruction passes
pub record IsTypedFor (d : DataInstr) (f : FrameView) : Type 0 where
  pub registers : List Scalar
  pub typing : Typing
  pub kinds : kinds_of f.held ≡ kinds_in typing
  pub asked : AllYes (requires_data registers d typing)

-- ---- effects

-- holds if there is no notice; or all subscribers of one live datum get notices, from its server
abbrev pub AreNotified : Served → Served → List Notice → Type 0
AreNotified old new more = ((more ≡ []) × (new.queues ≡ old.queues))
    ⊎ ((id : ℕ) × (x : Datum) × (get old.store.live id ≡ Some x) × (more ≡ each (notice_to id) x.subscribers) × (new.queues ≡ queued id more old.queues))

-- it was executed: the new store and frame are those of the machine's definition
pub record IsDone (d : DataInstr) (old new : Served) (f g : FrameView) : Type 0 where
  pub more : List Notice
  pub goes : (ns : Notices) (left : Context) → data_instr d (sees old ns f) ≡ Ok left → left ≡ sees new (with_notices ns more) g
  pub notified : AreNotified old new more
  pub made : (ns : Notices) → more ≡ notices_made d (sees old ns f)
  -- data that stay live keep their places
  pub stays : (id place : ℕ) → IsLive old id → IsLive new id → get old.places id ≡ Some place → get new.places id ≡ Some place
  -- each right of the task was its own, or has its datum's place now
  pub own : (k : ℕ) (h : Held) → slice_index_or g.held k None ≡ Some h → (slice_index_or f.held k None ≡ Some h) ⊎ IsAt new.places (right_in h)
  -- the typing continues as the definition says
  pub way : Way
  pub onwards : onward way f.position.place (data_flow d) ≡ Some g.position.place
  pub kinds : (registers : List Scalar) (typing : Typing) → kinds_of f.held ≡ kinds_in typing → AllYes (requires_data registers d typing) → kinds_of g.held ≡ kinds_in (after_data way d typing)
  -- and one more instruction is spent
  pub rest : g ≡ record f { position = g.position; held = g.held; spent = f.spent + 1 }

-- ---- requirements and effects

-- the task may execute it: by the definition it succeeds, with some notices, and the task may run from wherever it leads
pub record MayDo (d : DataInstr) (s : Served) (f : FrameView) : Type 0 where
  pub ns : Notices
  pub left : Context
  pub goes : data_instr d (sees s ns f) ≡ Ok left
  pub instr : IsDataInstr d
  pub placed : ArePlaced s.places f.held
  pub typed : IsTypedFor d f
  pub store : IsTypedStore s.store
  pub room : HasRoom s f
  pub fits_place : (new : Served) (g : FrameView) → IsDone d s new f g → MayBeAt g.program.program g.procedure g.position

-- ---- after a job

-- it was executed after the job, and the draft is of the values then
pub record IsDoneAfter (d : DataInstr) (old new : Served) (f g : FrameView) (done : DoneView) (draft : DraftView) : Type 0 where
  pub is_done : IsDone d old new (frame_after f done) g
  pub is_draft : draft ≡ draft_of g

-- an allocation failed, where one may be needed, and nothing has changed
pub record IsOutOfMemory (d : DataInstr) (old new : Served) (f g : FrameView) (done back : DoneView) : Type 0 where
  pub memory : TakesMemory d old (frame_after f done)
  pub store : IsUnchanged old new
  pub frame : g ≡ f
  pub is_back : back ≡ done

abbrev pub IsAnswer : DataInstr → Served → Served → FrameView → FrameView → DoneView → Result DraftView DoneView → Type 0
IsAnswer d old new f g done (Ok draft) = IsDoneAfter d old new f g done draft
IsAnswer d old new f g done (Err back) = IsOutOfMemory d old new f g done back

-- ---- and issued then

-- it was executed after the job, and the task's next job is issued under this number
pub record IsIssuedAfter (d : DataInstr) (old new : Served) (f g : FrameView) (event_no : ℕ) (done : DoneView) (job : JobView) : Type 0 where
  pub at : FrameView
  pub is_done : IsDone d old new (frame_after f done) at
  pub is_issued : g ≡ issued_as event_no at
  pub is_job : job ≡ job_of g

abbrev pub IsIssuedAnswer : DataInstr → Served → Served → FrameView → FrameView → ℕ → DoneView → Result JobView DoneView → Type 0
IsIssuedAnswer d old new f g event_no done (Ok job) = IsIssuedAfter d old new f g event_no done job
IsIssuedAnswer d old new f g event_no done (Err back) = IsOutOfMemory d old new f g done back
