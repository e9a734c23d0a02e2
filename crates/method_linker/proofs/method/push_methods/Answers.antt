use Rattle.method_linker.proofs.Pushed.{method_more, methods_all}
use Rattle.method_linker.proofs.method.push_methods.Goals as goal

pub loop-method-preserved : goal.loop-method-preserved
loop-method-preserved c end rest =
    c.loop-method.invariant end
    (method_more c.args.first c.args.methods.now c.loop-method.method-index c.method-item.result c.loop-method.units c.push_method.new.units end
    c.loop-method-test.true c.method-item.is c.in_ok-push_method.ensures rest)

pub returns : goal.returns
returns c =
    c.loop-method.invariant _
    (methods_all c.args.first c.args.methods.now c.loop-method.method-index c.loop-method.units c.loop-method-test.false)
