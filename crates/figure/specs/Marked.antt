-- A task with the categories of its fetches.
use Rattle.records.specs.Contents.{Contents}
use Rattle.task.specs.View.{task_contents}
use Rattle.categories.specs.Category.{Marks}
use Rattle.marks.specs.Table.{mark_at}
use Rattle.figure.specs.declared.counts.MarkedTask.{MarkedTask}

abbrev pub contents : MarkedTask → Contents
contents m = task_contents m.task.now

abbrev pub marks : MarkedTask → Marks
marks m = mark_at (contents m) m.table.now
