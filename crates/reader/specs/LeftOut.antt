-- File 6, 10 and 15: what is said of files in which a part that may be left out is left out. Definitions only, for laws of `read_model`
-- and of the replies; no contract cites them. Assumes nothing.
use Rattle.std.specs.Prelude.{◌≡◌, Bool, true, List, ◌++◌, ℕ, ◌+◌, ◌≤◌, take, drop, replicate, Result, Ok, Err}
use Rattle.reachability.specs.declared.model.Model.{Model}
use Rattle.records.specs.Kinds.{layout_of}
use Rattle.records.specs.Order.{may_follow}
use Rattle.records.specs.Records.{record_at, record_kind}
use Rattle.reader.specs.declared.refusals.Refused.{Refused}
use Rattle.reader.specs.Reading.{Stop}

-- A place in a file at which a part is left out, by the places that the part may begin at and the rank of the first place behind it. The
-- next record, whole or cut, is one that stands behind the part, or it may not stand here; or no record is left.
pub record LeftOutAt (begins : ℕ → Bool) (rank : ℕ) (file : List ℕ) (p : Stop) : Type 0 where
  pub begins-here : begins p.state.place ≡ true
  pub next-behind : may_follow p.state.place (record_kind (record_at file p.at)) ≡ true → rank ≤ (layout_of (record_kind (record_at file p.at))).place

-- Six numbers of zero.
abbrev pub zero_body : List ℕ
zero_body = replicate 24 0

-- A file with bytes put in at an offset.
abbrev pub put_in : List ℕ → ℕ → List ℕ → List ℕ
put_in more at file = take at file ++ (more ++ drop at file)

-- A reading with the offset of a refusal higher by so many bytes.
abbrev pub moved : ℕ → Result Model Refused → Result Model Refused
moved k (Ok m) = Ok m
moved k (Err e) = Err (record { refusal = e.refusal; offset = k + e.offset })
