-- The text of each arm is the one that the meaning says.
use Rattle.std.proofs.Common.{sym, ap}
use Rattle.refusals.specs.Refusals.{meaning_of}
use Rattle.refusals.proofs.Refusal.meaning.Goals as goal

pub returns-in-RecordLength : goal.returns-in-RecordLength
returns-in-RecordLength c = sym (ap meaning_of c.in-RecordLength.is)

pub returns-in-TaskBounds : goal.returns-in-TaskBounds
returns-in-TaskBounds c = sym (ap meaning_of c.in-TaskBounds.is)

pub returns-in-StreamBounds : goal.returns-in-StreamBounds
returns-in-StreamBounds c = sym (ap meaning_of c.in-StreamBounds.is)

pub returns-in-PlanFull : goal.returns-in-PlanFull
returns-in-PlanFull c = sym (ap meaning_of c.in-PlanFull.is)

pub returns-in-RowCount : goal.returns-in-RowCount
returns-in-RowCount c = sym (ap meaning_of c.in-RowCount.is)

pub returns-in-Length : goal.returns-in-Length
returns-in-Length c = sym (ap meaning_of c.in-Length.is)

pub returns-in-Letters : goal.returns-in-Letters
returns-in-Letters c = sym (ap meaning_of c.in-Letters.is)

pub returns-in-RowNotHeld : goal.returns-in-RowNotHeld
returns-in-RowNotHeld c = sym (ap meaning_of c.in-RowNotHeld.is)

pub returns-in-WayVoidOrLate : goal.returns-in-WayVoidOrLate
returns-in-WayVoidOrLate c = sym (ap meaning_of c.in-WayVoidOrLate.is)

pub returns-in-StateHeld : goal.returns-in-StateHeld
returns-in-StateHeld c = sym (ap meaning_of c.in-StateHeld.is)

pub returns-in-NotNext : goal.returns-in-NotNext
returns-in-NotNext c = sym (ap meaning_of c.in-NotNext.is)

pub returns-in-NoSuchTask : goal.returns-in-NoSuchTask
returns-in-NoSuchTask c = sym (ap meaning_of c.in-NoSuchTask.is)
