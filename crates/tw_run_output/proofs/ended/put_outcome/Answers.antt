use Rattle.std.proofs.Common.{◌++◌, ℕ, List, ap, refl}
use Rattle.tw_run_output.proofs.RunNames.{on_ok_weaker, text_of}
use Rattle.tw_order.specs.declared.runs.RunAnswer.TheVariants.{Json, Numbers, Order, OrderJson, Picture, Report}
use Rattle.tw_run_output.specs.EventOrder.{order_line}
use Rattle.tw_run_output.specs.Run.{limit_details}
use Rattle.tw_run_output.proofs.Closings.{alone, ended, ended_after}
use Rattle.tw_run_output.proofs.ended.put_outcome.Goals as goal

pub returns-in_ok-put_run_report-in-Report : goal.returns-in_ok-put_run_report-in-Report
returns-in_ok-put_run_report-in-Report c =
    let order = c.args.order.now in
    let text = text_of c.args.source.now in
    let limit = limit_details text order c.args.closing in
    let (printed, is, added) = c.in_ok-put_run_report-in-Report.ensures in
    on_ok_weaker c.put_run_details.result
    (λ h over.
    let (more, are, whole) = h over.state over.reaches in
    ended order.options.answer Report c.in-Report.is text c.args.verified.program order c.args.history.now.events c.args.cut over.state c.args.closing c.args.out.now.items (printed ++ limit) more _ c.put_run_details.new.out.items
    (ap (λ (t : List ℕ). t ++ limit) (over.reports printed is)) are added whole) c.put_run_details.ensures

pub returns-in_ok-put_run_report-in-Numbers : goal.returns-in_ok-put_run_report-in-Numbers
returns-in_ok-put_run_report-in-Numbers c =
    let order = c.args.order.now in
    let text = text_of c.args.source.now in
    let limit = limit_details text order c.args.closing in
    let (printed, is, added) = c.in_ok-put_run_report-in-Numbers.ensures in
    on_ok_weaker c.put_run_numbers.result
    (λ h over.
    let (numbers, more, are, whole) = h over.state over.reaches in
    ended_after order.options.answer Numbers c.in-Numbers.is text c.args.verified.program order c.args.history.now.events c.args.cut over.state c.args.closing c.args.out.now.items (printed ++ limit) numbers more _ c.put_run_numbers.new.out.items
    (numbers, ap (λ (t : List ℕ). (t ++ limit) ++ numbers) (over.reports printed is)) are added whole) c.put_run_numbers.ensures

pub returns-in_ok-put_run_report-in-Order : goal.returns-in_ok-put_run_report-in-Order
returns-in_ok-put_run_report-in-Order c =
    let order = c.args.order.now in
    let text = text_of c.args.source.now in
    let limit = limit_details text order c.args.closing in
    let (printed, is, added) = c.in_ok-put_run_report-in-Order.ensures in
    on_ok_weaker c.put_order.result
    (λ h over.
    let (found, lines, more, first, shown, are, whole) = h over.state over.reaches in
    ended_after order.options.answer Order c.in-Order.is text c.args.verified.program order c.args.history.now.events c.args.cut over.state c.args.closing c.args.out.now.items (printed ++ limit) lines more _ c.put_order.new.out.items
    (found, lines, first, shown, ap (λ (t : List ℕ). (t ++ limit) ++ lines) (over.reports printed is)) are added whole) c.put_order.ensures

pub returns-in-Picture : goal.returns-in-Picture
returns-in-Picture c =
    let order = c.args.order.now in
    on_ok_weaker c.put_run_picture.result
    (λ (printed, xml, bytes, added) over.
    alone order.options.answer (Picture c.in-Picture.shown) c.in-Picture.is (text_of c.args.source.now) c.args.verified.program order c.args.history.now.events c.args.cut over.state c.args.closing c.args.out.now.items printed c.put_run_picture.new.out.items
    (xml, bytes) refl added) c.put_run_picture.ensures

pub returns-in-Json : goal.returns-in-Json
returns-in-Json c =
    let order = c.args.order.now in
    on_ok_weaker c.put_json.result
    (λ (line, is, added) over.
    alone order.options.answer Json c.in-Json.is (text_of c.args.source.now) c.args.verified.program order c.args.history.now.events c.args.cut over.state c.args.closing c.args.out.now.items line c.put_json.new.out.items (over.shows c.args.cut line is) refl added)
    c.put_json.ensures

pub returns-in-OrderJson : goal.returns-in-OrderJson
returns-in-OrderJson c =
    let order = c.args.order.now in
    on_ok_weaker c.put_order_json.result
    (λ (found, members, first, are, added) over.
    alone order.options.answer OrderJson c.in-OrderJson.is (text_of c.args.source.now) c.args.verified.program order c.args.history.now.events c.args.cut over.state c.args.closing c.args.out.now.items (order_line c.args.closing found members)
    c.put_order_json.new.out.items (found, first, ap (order_line c.args.closing found) (over.members c.args.cut members are)) refl added) c.put_order_json.ensures
