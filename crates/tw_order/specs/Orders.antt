-- The greatest cap, runs that may be stopped, orders whose runs are single-threaded, and those that read assembly text.
use Rattle.std.specs.Prelude.{◌||◌, ℕ, Bool, false, true, is_some}
use Rattle.tw_order.specs.declared.form.AssembleOrder.{AssembleOrder}
use Rattle.tw_order.specs.declared.form.Assembling.{Assembling}
use Rattle.tw_order.specs.declared.form.Assembling.TheVariants as assembling
use Rattle.tw_order.specs.declared.order.Order.{Order}
use Rattle.tw_order.specs.declared.order.Order.TheVariants.{Assemble, Check, Disassemble, Each, Replay, Run}
use Rattle.tw_order.specs.declared.order.Source.TheVariants.{Assembly}
use Rattle.tw_order.specs.declared.runs.RunOptions.{RunOptions}

-- the cap that admits every program
abbrev pub greatest_cap : ℕ
greatest_cap = 18446744073709551615

-- returns whether a run may be stopped: its time is limited, or an observer watches it
abbrev pub may_be_stopped : RunOptions → Bool
may_be_stopped options = options.is_watched || is_some options.seconds

-- returns the order with its run single-threaded and without an observer, if it has one
abbrev pub order_in_turn : Order → Order
order_in_turn (Run source options inputs) = Run source (record options { in_turn = true; is_watched = false }) inputs
order_in_turn (Assemble order) = Assemble order
order_in_turn (Disassemble source order) = Disassemble source order
order_in_turn (Check source order) = Check source order
order_in_turn (Each source order) = Each source order
order_in_turn (Replay source answer layout inputs) = Replay source answer layout inputs

-- return what `asm` makes of a text that may be symbolic, and the order to assemble it
abbrev pub names : Assembling → Assembling
names assembling.Text = assembling.Names
names what = what

abbrev pub with_names : AssembleOrder → AssembleOrder
with_names order = record order { what = names order.what }

-- returns the order for a program in assembly text
abbrev pub order_of_text : Order → Order
order_of_text (Assemble order) = Assemble (with_names order)
order_of_text (Disassemble source order) = Disassemble Assembly order
order_of_text (Check source order) = Check Assembly order
order_of_text (Run source options inputs) = Run Assembly options inputs
order_of_text (Each source order) = Each Assembly order
order_of_text (Replay source answer layout inputs) = Replay Assembly answer layout inputs
