-- What has to be in the tree of an evaluation: the nodes of its frames and values.
use Rattle.std.specs.Prelude.{◌<◌, All, List, length}
use Rattle.xs_tree.specs.Record.{Record}
use Rattle.xs_value.specs.Conversion.{IsIn}
use Rattle.xs_value.specs.declared.value.Value.{Value}
pub use Rattle.xs_body_spec.specs.Inside.{AreNodes, AreValues, IsJobIn, IsTaskIn, IsWorld}
use Rattle.xs_body_spec.specs.World.{World}
use Rattle.xs_body.specs.declared.frames.Callee.{Callee}
use Rattle.xs_body.specs.declared.frames.Callee.TheVariants as callee
use Rattle.xs_body.specs.declared.frames.ApplyLeft.{ApplyLeft}
use Rattle.xs_body.specs.declared.frames.EachLeft.{EachLeft}
use Rattle.xs_body.specs.declared.frames.Frame.{Frame}
use Rattle.xs_body.specs.declared.frames.Frame.TheVariants as frame
use Rattle.xs_body.specs.declared.frames.ParamsLeft.{ParamsLeft}
use Rattle.xs_body.specs.declared.frames.Passing.{Passing}
use Rattle.xs_body.specs.declared.attempts.Attempt.{Attempt}
use Rattle.xs_body.specs.declared.attempts.Attempt.TheVariants as attempt
use Rattle.xs_body.specs.steps.Lists.{nodes_in}

-- those of what a call waits for
abbrev pub AreCallees : List Record → Callee → Type 0
AreCallees rs (callee.Template i) = Unit {0}
AreCallees rs (callee.Rules mode nodes) = AreNodes rs (nodes_in nodes)

-- those of a call that waits for its parameters; of a body for each node; of the rules for each node; of a template that begins
pub record IsPassing (rs : List Record) (p : Passing) : Type 0 where
  pub node : p.scope.focus.node < length rs
  pub values : AreValues rs p.values.items
  pub callee : AreCallees rs p.callee

pub record IsEach (rs : List Record) (e : EachLeft) : Type 0 where
  pub nodes : AreNodes rs (nodes_in e.nodes)

pub record IsApply (rs : List Record) (a : ApplyLeft) : Type 0 where
  pub nodes : AreNodes rs (nodes_in a.nodes)
  pub passed : AreValues rs a.rules.passed.values

pub record IsParams (rs : List Record) (p : ParamsLeft) : Type 0 where
  pub node : p.scope.focus.node < length rs
  pub passed : AreValues rs p.passed.values

-- those of a frame
abbrev pub IsInside : List Record → Frame → Type 0
IsInside rs (frame.Rest is c) = c.focus.node < length rs
IsInside rs frame.Fill = Unit {0}
IsInside rs (frame.Each e) = IsEach rs e.value
IsInside rs (frame.Apply a) = IsApply rs a.value
IsInside rs (frame.Bodies bodies c) = c.focus.node < length rs
IsInside rs frame.End = Unit {0}
IsInside rs (frame.Sets names f) = f.node < length rs
IsInside rs (frame.Declared name i f) = f.node < length rs
IsInside rs (frame.Attributes a) = a.scope.focus.node < length rs
IsInside rs (frame.Make m p) = Unit {0}
IsInside rs (frame.Say p terminate) = Unit {0}
IsInside rs (frame.Pass p) = IsPassing rs p.value
IsInside rs (frame.Take p) = IsPassing rs p.value
IsInside rs (frame.Params p) = IsParams rs p.value

-- an evaluation is over a sound world, and those of its frames and of the values of local bindings are in the tree
pub record IsEvaluator (w : World) (fs : List Frame) (vs : List Value) : Type 0 where
  pub world : IsWorld w
  pub frames : All (IsInside w.tree) fs
  pub slots : AreValues w.tree vs

-- those of the value of an attempt
abbrev pub IsAttemptIn : List Record → Attempt → Type 0
IsAttemptIn rs (attempt.Done v says ticks) = IsIn rs v
IsAttemptIn rs (attempt.Stopped says ticks spot) = Unit {0}
IsAttemptIn rs (attempt.Needs g p says ticks) = Unit {0}
