use Rattle.tw_pool.proofs.Names.{Actor, IsIdle, subst, sym}
use Rattle.tw_pool.proofs.pool.Pool.rests.Goals as goal

pub returns-in-Engine : goal.returns-in-Engine
returns-in-Engine c = λ is. subst (λ (a : Actor). IsIdle c.args.self.now a) (sym c.in-Engine.is) (c.engine_rests.ensures is)

pub returns-in-Server : goal.returns-in-Server
returns-in-Server c = λ is. subst (λ (a : Actor). IsIdle c.args.self.now a) (sym c.in-Server.is) (c.server_rests.ensures is)

pub returns-in-Worker : goal.returns-in-Worker
returns-in-Worker c = λ is. subst (λ (a : Actor). IsIdle c.args.self.now a) (sym c.in-Worker.is) (c.worker_rests.ensures is)
