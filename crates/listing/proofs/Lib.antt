mod Puts
mod TaskLines
mod MapErr
mod Finishing
mod Records
mod Stepping
mod Opened
