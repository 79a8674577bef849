-- The steps of a driver.
pub mod Driving
-- The effects of these steps at a host.
pub mod AtHost
-- Reports of drivers in threads on failed allocations.
pub mod Threads
